use native.Mathlib.Omega.{arith}
use Rattle.readers.proofs.Taking.{parts_start, no_word, last_word, parts_more, one_more, filled}
use Rattle.readers.proofs.hex.take_hex.Goals as goal

pub loop-place-init : goal.loop-place-init
loop-place-init c = parts_start _ _ _ c.requires

pub returns-in_err-some : goal.returns-in_err-some
returns-in_err-some c = rw c.from_residual.ensures (no_word _ _ _ _ _ _ _ c.loop-place.invariant c.in_err-some.ensures)

pub returns-then-some-lt8 : goal.returns-then-some-lt8
returns-then-some-lt8 c =
    last_word _ _ _ _ _ _ _ c.loop-place.invariant (omega arith) c.requires _ _ _ c.in_ok-some.ensures c.if-some-lt8.true

pub loop-place-preserved : goal.loop-place-preserved
loop-place-preserved c =
    parts_more _ _ _ _ _ _ _ c.loop-place.invariant (omega arith) c.requires _ _ _ c.in_ok-some.ensures c.if-some-lt8.false

pub returns-in-Some : goal.returns-in-Some
returns-in-Some c = one_more _ _ _ _ _ _ _ c.loop-place.invariant (omega arith) _ c.in-Some.ensures

pub returns-in-None : goal.returns-in-None
returns-in-None c = filled _ _ _ _ _ _ _ c.loop-place.invariant (omega arith) c.in-None.ensures
