-- `forecast::loss::gone_row` meets its contract: a row that tables hold is there, so no guard stops it. Assumes nothing.
use native.Mathlib.Omega.{arith}
use Rattle.tables.specs.Heads.{marks_said, values-said}
use Rattle.words.proofs.Rows.{counted_marks}
use Rattle.forecast.proofs.Goes.{row_none, row_gone}
use Rattle.forecast.proofs.loss.gone_row.Goals.{then-s-head-via-then-s-head, then-s-head-via-else-s-head+then-s-head-2}
use Rattle.forecast.proofs.loss.gone_row.Goals as goal

pub returns-then-s-gt-MARKS_ROOM : goal.returns-then-s-gt-MARKS_ROOM
returns-then-s-gt-MARKS_ROOM c =
    row_none _ _ _ _ _ (λ keys t r h. omega (arith, c.then-s-gt-MARKS_ROOM.either, h.mark, h.value))

pub returns-then-s-head : goal.returns-then-s-head
returns-then-s-head c =
    let marks = marks_said c.head_at-head.ensures in
    let values = values-said c.head_at-head.ensures in
    elim c.then-s-head.branch [
      | then-s-head-via-then-s-head w ↦ row_none _ _ _ _ _ (λ keys t r h. omega (arith, marks, w.if-s-head.true, h.marks, h.marks_fit))
      | then-s-head-via-else-s-head+then-s-head-2 w ↦ row_none _ _ _ _ _ (λ keys t r h. omega (arith, values, w.if-s-head-2.true, h.values, h.values_fit))
    ]

pub returns : goal.returns
returns c =
    row_gone _ _ _ _ _ _ _ _ c.head_at-head.ensures (counted_marks _ _ _ _ _ (omega arith) c.covered_rows.ensures)
    c.covered_rows-2.ensures
