-- `values::drop_values` meets its contract: those kept are laid over all, and the rest is closed up to them. Assumes nothing.
use native.Mathlib.Omega.{arith}
use Rattle.values.specs.Values.{Drops}
use Rattle.tables.specs.Heads.{marks_said, values-said}
use Rattle.tables.specs.Placed.{placed}
use Rattle.values.proofs.Dropped.{drops}
use Rattle.values.proofs.drop_values.Goals as goal

-- where the row stands, no test sends it back
pub returns-then-row-heads : goal.returns-then-row-heads
unfolding Drops
returns-then-row-heads c = λ k m A R r H t.
    let p = placed _ _ _ A R r H t in
    absurd (elim c.then-row-heads.branch [
      | goal.then-row-heads-via-then-row-heads w ↦ omega (arith, p.row)
      | goal.then-row-heads-via-else-row-heads+then-live-gt-VALUES_ROOM w ↦ omega (arith, H.values_fit)
      | goal.then-row-heads-via-else-row-heads+else-live-gt-VALUES_ROOM+then-values-live w ↦ omega (arith, p.values_long, H.values_fit)
      | goal.then-row-heads-via-else-row-heads+else-live-gt-VALUES_ROOM+else-values-live+then-first-live w ↦ omega (arith, p.values_low)
    ])

pub returns-then-n-live : goal.returns-then-n-live
unfolding Drops
returns-then-n-live c = λ k m A R r H t.
    let p = placed _ _ _ A R r H t in
    absurd (omega (arith, p.values_low, p.values, values-said c.head_in-head.ensures, c.if-n-live.true))

pub with_counts-requires : goal.with_counts-requires
with_counts-requires c =
    let said = c.head_in-head.ensures in
    (omega (arith, marks_said said), omega (arith, values-said said, c.keep_rows-end.ensures.high))

pub returns : goal.returns
returns c =
    drops _ _ _ _ _ _ _ _ _ _ c.if-values-live.false c.if-first-live.false c.if-n-live.false
    c.head_in-head.ensures c.keep_rows-end.ensures c.close.ensures c.with_counts.ensures
