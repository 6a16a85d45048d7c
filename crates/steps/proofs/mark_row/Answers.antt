-- `steps::mark_row` meets its contract: the id is put in at its rank, before the gap. Assumes nothing.
use native.Mathlib.Omega.{arith}
use Rattle.steps.specs.Steps.{Marks}
use Rattle.tables.specs.Heads.{marks_said}
use Rattle.tables.specs.Placed.{placed}
use Rattle.words.proofs.Rows.{ranked_marks}
use Rattle.steps.proofs.Marked.{marks}
use Rattle.steps.proofs.mark_row.Goals as goal

-- where the row stands and a mark has room, no test sends it back
pub returns-then-row-heads : goal.returns-then-row-heads
unfolding Marks
returns-then-row-heads c = λ k t v A R r G H e u l some low.
    absurd (elim c.then-row-heads.branch [
      | goal.then-row-heads-via-then-row-heads w ↦ omega (arith, (placed _ _ _ A R r H e).row)
      | goal.then-row-heads-via-else-row-heads+then-live-ge-MARKS_ROOM w ↦ omega (arith, l)
      | goal.then-row-heads-via-else-row-heads+else-live-ge-MARKS_ROOM+then-g-eq0 w ↦ omega (arith, some)
      | goal.then-row-heads-via-else-row-heads+else-live-ge-MARKS_ROOM+else-g-eq0+then-gap-marks w ↦ omega (arith, G.fits, G.long)
      | goal.then-row-heads-via-else-row-heads+else-live-ge-MARKS_ROOM+else-g-eq0+else-gap-marks+then-g-marks w ↦
          omega (arith, G.fits, G.long)
    ])

pub returns-then-n-ge-MARKS_ROOM : goal.returns-then-n-ge-MARKS_ROOM
unfolding Marks
returns-then-n-ge-MARKS_ROOM c = λ k t v A R r G H e u l some low.
    let p = placed _ _ _ A R r H e in
    let said = marks_said c.head_in-n.ensures in
    absurd (elim c.then-n-ge-MARKS_ROOM.branch [
      | goal.then-n-ge-MARKS_ROOM-via-then-n-ge-MARKS_ROOM w ↦ omega (arith, p.marks_low, p.marks, l)
      | goal.then-n-ge-MARKS_ROOM-via-else-n-ge-MARKS_ROOM+then-from-gap w ↦ omega (arith, low)
      | goal.then-n-ge-MARKS_ROOM-via-else-n-ge-MARKS_ROOM+else-from-gap+then-n-gap w ↦ omega (arith, low, p.marks)
    ])

pub with_mark-requires : goal.with_mark-requires
with_mark-requires c = omega (arith, marks_said c.head_in-n.ensures, c.if-n-ge-MARKS_ROOM.false)

pub returns : goal.returns
returns c =
    marks _ _ _ _ _ _ _ _ _ _ _ c.if-from-gap.false c.if-n-gap.false (marks_said c.head_in-n.ensures)
    (ranked_marks _ _ _ _ _ (omega arith) c.rank_rows-k.ensures)
    c.«open».ensures c.with_mark.ensures
