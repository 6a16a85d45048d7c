use Prim.Native.Nat.{ℕ, ◌+◌, ◌-◌, ◌*◌}
use native.Mathlib.Omega.{arith}
use mathlib.Core.Path.{refl, sym, ◌∙◌, subst}
use lib.ListN.{get_or}
use Rattle.meaning.specs.Ascii.{byte}
use Rattle.decimal.specs.Numbers.{Spells}
use Rattle.decimal.proofs.Runs.{start, stops, end_stops, more, above, settled}
use Rattle.decimal.proofs.Layouts.{refused}
use Rattle.decimal.proofs.take_decimal.Goals as goal

pub loop-n-init : goal.loop-n-init
loop-n-init c = start _ _ _ _ c.rest-rest.ensures

pub returns-then-not-is_ascii_digit : goal.returns-then-not-is_ascii_digit
returns-then-not-is_ascii_digit c =
    settled _ _ _ _ _ _ c.loop-n.invariant
    (stops _ _ c.loop-n-test.true (sym c.is_ascii_digit.ensures.value ∙ c.if-not-is_ascii_digit.true)) _ c.spelled.ensures

pub returns-in_err-checked_mul : goal.returns-in_err-checked_mul
returns-in_err-checked_mul c =
    let digit = c.if-not-is_ascii_digit.ensures.cases in
    refused _ c.from_residual.ensures
    (above _ _ _ _ _ _ c.loop-n.invariant (c.loop-n.v * 10 + (get_or c.rest-rest.result.now c.loop-n.n 0 - byte "0"))
    (record { inside = c.loop-n-test.true; low = digit.0; high = digit.1; goes = refl })
    (omega (arith, c.in_err-checked_mul.ensures)))

pub returns-in_err-v : goal.returns-in_err-v
returns-in_err-v c =
    let digit = c.if-not-is_ascii_digit.ensures.cases in
    refused _ c.from_residual-in_err-v.ensures
    (above _ _ _ _ _ _ c.loop-n.invariant (c.in_ok-checked_mul.field-0 + c.from.result)
    (record { inside = c.loop-n-test.true; low = digit.0; high = digit.1; goes = omega (arith, c.in_ok-checked_mul.ensures) })
    (omega (arith, c.in_err-v.ensures)))

pub returns-then-max-v : goal.returns-then-max-v
returns-then-max-v c =
    let digit = c.if-not-is_ascii_digit.ensures.cases in
    above _ _ _ _ _ _ c.loop-n.invariant c.in_ok-v.v
    (record { inside = c.loop-n-test.true; low = digit.0; high = digit.1; goes = omega (arith, c.in_ok-checked_mul.ensures, c.in_ok-v.ensures) })
    (omega arith)

pub loop-n-preserved : goal.loop-n-preserved
loop-n-preserved c =
    let digit = c.if-not-is_ascii_digit.ensures.cases in
    more _ _ _ _ _ _ c.loop-n.invariant c.in_ok-v.v
    (record { inside = c.loop-n-test.true; low = digit.0; high = digit.1; goes = omega (arith, c.in_ok-checked_mul.ensures, c.in_ok-v.ensures) })
    (omega arith)

pub returns : goal.returns
returns c =
    settled _ _ _ _ _ _ c.loop-n.invariant (end_stops _ _ c.loop-n-test.false) _
    (subst (λ (n : ℕ). Spells n c.loop-n.v (c.args.a + n) c.spelled-2.result) (omega arith) c.spelled-2.ensures)
