use native.Mathlib.Omega.{arith}
use Rattle.tables.specs.Heads.{marks_said, values-said}
use mathlib.Core.Path.{sym}
use Rattle.sheet.proofs.Rows.{row_text_lem}
use Rattle.sheet.proofs.listed.RowsPieces.piece.Goals as goal

pub returns : goal.returns
returns c =
    let r = c.args.self.now in
    let said = c.head_at-h.ensures in
    let m = c.marks_of-marks.ensures in
    let v = c.values_of-values.ensures in (
      (c.place_of.ensures.1, (m.valid, v.valid)),
      rw (c.place_of.ensures.0, m.text, v.text) (sym (row_text_lem r.tables.now r.at said)),
      omega (arith, m.most, v.most, marks_said said, values-said said),
    )
