-- `steps::open_row` meets its contract: the row's words are put in. Assumes nothing.
use native.Mathlib.Omega.{arith}
use Rattle.steps.specs.Steps.{Opens}
use Rattle.steps.proofs.Opened.{room, opens}
use Rattle.steps.proofs.open_row.Goals as goal

-- where a row has room, no test sends it back
pub returns-then-rows-ge-ROWS_ROOM : goal.returns-then-rows-ge-ROWS_ROOM
unfolding Opens
returns-then-rows-ge-ROWS_ROOM c = λ m v A R p H x l n g w t.
    let o = room _ _ m v _ A R _ H x l in
    absurd (elim c.then-rows-ge-ROWS_ROOM.branch [
      | goal.then-rows-ge-ROWS_ROOM-via-then-rows-ge-ROWS_ROOM w ↦ omega (arith, l)
      | goal.then-rows-ge-ROWS_ROOM-via-else-rows-ge-ROWS_ROOM+then-at-rows w ↦ omega (arith, o.among)
      | goal.then-rows-ge-ROWS_ROOM-via-else-rows-ge-ROWS_ROOM+else-at-rows+then-depth-gt-DEEPEST w ↦ omega (arith, n)
      | goal.then-rows-ge-ROWS_ROOM-via-else-rows-ge-ROWS_ROOM+else-at-rows+else-depth-gt-DEEPEST+then-heads-rows w ↦
          omega (arith, o.heads)
      | goal.then-rows-ge-ROWS_ROOM-via-else-rows-ge-ROWS_ROOM+else-at-rows+else-depth-gt-DEEPEST+else-heads-rows+then-keys-rows w ↦
          omega (arith, o.keys)
    ])

pub returns : goal.returns
returns c =
    opens _ _ _ _ _ _ _ _ _ _ _ _ _ c.if-at-rows.false c.if-heads-rows.false c.if-keys-rows.false
    c.«open».ensures c.open-2.ensures c.lay.ensures c.new_head.ensures
