-- `values::add_value` meets its contract: the value's words are put in at its rank. Assumes nothing.
use native.Mathlib.Omega.{arith}
use Rattle.values.specs.Values.{Adds}
use Rattle.tables.specs.Heads.{marks_said, values-said}
use Rattle.tables.specs.Placed.{placed}
use Rattle.values.proofs.Added.{adds}
use Rattle.values.proofs.add_value.Goals as goal

-- where the row stands and a value has room, no test sends it back
pub returns-then-row-heads : goal.returns-then-row-heads
unfolding Adds
returns-then-row-heads c = λ k m A R r x H t u l w.
    let p = placed _ _ _ A R r H t in
    absurd (elim c.then-row-heads.branch [
      | goal.then-row-heads-via-then-row-heads w ↦ omega (arith, p.row)
      | goal.then-row-heads-via-else-row-heads+then-live-ge-VALUES_ROOM w ↦ omega (arith, l)
      | goal.then-row-heads-via-else-row-heads+else-live-ge-VALUES_ROOM+then-values-live w ↦ omega (arith, p.values_long, l)
      | goal.then-row-heads-via-else-row-heads+else-live-ge-VALUES_ROOM+else-values-live+then-first-live w ↦ omega (arith, p.values_low)
    ])

pub returns-then-n-live : goal.returns-then-n-live
unfolding Adds
returns-then-n-live c = λ k m A R r x H t u l w.
    let p = placed _ _ _ A R r H t in
    absurd (omega (arith, p.values_low, p.values, values-said c.head_in-head.ensures, c.if-n-live.true))

pub with_counts-requires : goal.with_counts-requires
with_counts-requires c =
    (omega (arith, marks_said c.head_in-head.ensures), omega (arith, c.if-n-live.false, c.if-live-ge-VALUES_ROOM.false))

pub returns : goal.returns
returns c =
    adds _ _ _ _ _ _ _ _ _ _ _ _ c.if-values-live.false c.if-first-live.false c.if-n-live.false
    c.head_in-head.ensures c.rank_rows-k.ensures c.«open».ensures c.write_value.ensures c.with_counts.ensures
