-- `clear::clear_row` meets its contract: what it leaves is said by proofs/Row. Assumes nothing.
use native.Mathlib.Omega.{arith}
use Rattle.tables.specs.Heads.{marks_said, values-said}
use Rattle.words.proofs.Rows.{kept_marks}
use Rattle.clear.proofs.Row.{short_marks, short-values, row_done}
use Rattle.clear.proofs.clear_row.Goals as goal

pub returns-then-marks-p : goal.returns-then-marks-p
returns-then-marks-p c =
    let m = marks_said c.head_in-head.ensures in
    let v = values-said c.head_in-head.ensures in
    elim c.then-marks-p.branch [
      | goal.then-marks-p-via-then-marks-p w ↦ short_marks c.args.d.at _ _ _ c.args.p c.requires.0 _ _ m v w.if-marks-p.true
      | goal.then-marks-p-via-else-marks-p+then-values-p w ↦ short-values c.args.d.at _ _ _ c.args.p c.requires.0 _ _ m v w.if-values-p.true
    ]

pub with_counts-requires : goal.with_counts-requires
with_counts-requires c =
    let said = c.head_in-head.ensures in (
      omega (arith, marks_said said, c.keep_rows-to.ensures.high),
      omega (arith, values-said said, c.keep_rows-end.ensures.high),
    )

pub returns : goal.returns
returns c =
    let said = c.head_in-head.ensures in
    row_done c.args.d.at c.args.heads.now c.args.marks.now c.args.values.now c.args.p c.requires.0
    _ _ (marks_said said) (values-said said) c.keep_rows-to.result c.keep_rows-end.result
    c.with_counts.result c.keep_rows-to.new.t c.keep_rows-end.new.t
    (omega arith) (omega arith) (kept_marks _ _ _ _ _ _ _ (omega arith) c.keep_rows-to.ensures) c.keep_rows-end.ensures
    c.keep_rows-to.auto.t c.keep_rows-end.auto.t c.with_counts.ensures

pub overflow_mul-words : goal.overflow_mul-words
overflow_mul-words c = omega (arith, values-said c.head_in-head.ensures)
