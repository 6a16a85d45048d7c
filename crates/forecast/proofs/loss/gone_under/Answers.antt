use native.Mathlib.Omega.{arith}
use Rattle.forecast.proofs.Goes.{under_none, going_end, going_stop, going_on}
use Rattle.forecast.proofs.loss.gone_under.Goals as goal

pub returns-then-rows-gt-ROWS_ROOM : goal.returns-then-rows-gt-ROWS_ROOM
returns-then-rows-gt-ROWS_ROOM c =
    under_none _ _ _ _ _ _ _ (λ t q h. omega (arith, c.then-rows-gt-ROWS_ROOM.either, q, h.few, h.row, h.mark, h.value))

pub returns-then-head-n : goal.returns-then-head-n
returns-then-head-n c =
    going_stop _ _ _ _ _ _ _ _ _ c.loop-at.invariant _ c.head_at-head.ensures c.if-head-n.true

pub loop-at-preserved : goal.loop-at-preserved
loop-at-preserved c =
    rw c.plus-sum.ensures
    (going_on _ _ _ _ _ _ _ _ _ c.loop-at.invariant _ c.head_at-head.ensures c.loop-at-test.true c.if-head-n.false _ c.gone_row-g.ensures)

pub returns : goal.returns
returns c = going_end _ _ _ _ _ _ _ _ _ c.loop-at.invariant c.loop-at-test.false
