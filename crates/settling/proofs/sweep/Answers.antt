-- The operation at the index is passed, or dropped, or noted as the first that can be applied.
use native.Mathlib.Omega.{arith}
use mathlib.Core.Path.{refl, sym, ap, ◌∙◌}
use mathlib.Core.Bool.{not}
use Rattle.settling.proofs.Looking.{looks_early}
use Rattle.settling.proofs.Sweeping.{begins, ends, gone-one, drops, looked, passes, notes, passes_idle}
use Rattle.settling.proofs.sweep.Goals.{then-is_none+then-is_taken, else-is_none}
use Rattle.settling.proofs.sweep.Goals.{else-is_none-via-then-is_none+else-is_taken, else-is_none-via-else-is_none}
use Rattle.settling.proofs.sweep.Goals as goal

pub loop-i-preserved-then-early : goal.loop-i-preserved-then-early
loop-i-preserved-then-early c = (
  c.loop-i.invariant.0,
  λ X K.
      passes_idle _ X _ _ _ (looks_early _ _ _ c.early.ensures c.if-early.true) (c.loop-i.invariant.1 X K) c.loop-i-test.true refl refl,
)

pub returns-in_err-count : goal.returns-in_err-count
returns-in_err-count c =
    rw c.from_residual-in_err-count.ensures (record {
      fewer = c.loop-i.invariant.0;
      document = refl;
      sweeps = λ X K.
          absurd (gone-one _ X _ _ _ c.in_ok-j.ensures (c.loop-i.invariant.1 X K) c.loop-i-test.true _ _ c.take_out.ensures c.in_err-count.was);
    })

pub returns-in_err-j : goal.returns-in_err-j
returns-in_err-j c =
    rw c.from_residual.ensures (record {
      fewer = c.loop-i.invariant.0;
      document = refl;
      sweeps = λ X K. absurd (looked _ X _ _ c.in_err-j.ensures (c.loop-i.invariant.1 X K) c.loop-i-test.true);
    })

pub loop-i-preserved-then-is_dead : goal.loop-i-preserved-then-is_dead
loop-i-preserved-then-is_dead c = (
  omega (arith, c.loop-i.invariant.0, c.take_out.ensures.fewer _ c.in_ok-count.was),
  λ X K.
      drops _ X _ _ _ c.in_ok-j.ensures (c.loop-i.invariant.1 X K) c.loop-i-test.true _ _ c.take_out.ensures _ c.in_ok-count.was
      (sym c.is_dead.ensures ∙ c.if-is_dead.true),
)

pub loop-i-preserved : goal.loop-i-preserved
loop-i-preserved c =
    let dead = sym c.is_dead.ensures ∙ c.if-is_dead.false in (
      c.loop-i.invariant.0,
      λ X K.
          let S = c.loop-i.invariant.1 X K in
          elim c.if-is_none.branch [
            | then-is_none+then-is_taken w ↦
                rw w.able-is (notes _ X _ _ _ c.in_ok-j.ensures S c.loop-i-test.true dead (c.is_none.ensures ∙ ap not w.if-is_none.true)
                (sym w.is_taken.ensures ∙ w.if-is_taken.true))
            | else-is_none w ↦
                rw w.able-is (elim w.else-is_none.branch [
                  | else-is_none-via-then-is_none+else-is_taken v ↦
                      passes_idle _ X _ _ _ c.in_ok-j.ensures S c.loop-i-test.true dead (sym v.is_taken.ensures ∙ v.if-is_taken.false)
                  | else-is_none-via-else-is_none v ↦
                      passes _ X _ _ _ c.in_ok-j.ensures S c.loop-i-test.true dead (c.is_none.ensures ∙ ap not v.if-is_none.false)
                ])
          ],
    )

pub returns : goal.returns
returns c = record {
  fewer = c.loop-i.invariant.0;
  document = refl;
  sweeps = λ X K. ends _ X _ _ (c.loop-i.invariant.1 X K) c.loop-i-test.false;
}

pub loop-i-init : goal.loop-i-init
loop-i-init c = (omega arith, λ X K. begins _ X K)
