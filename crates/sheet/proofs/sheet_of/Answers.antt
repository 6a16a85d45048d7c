use mathlib.Core.Path.{sym}
use Rattle.sheet.proofs.Rows.{sheet_text_lem}
use Rattle.sheet.proofs.sheet_of.Goals as goal

pub returns-clause-text : goal.returns-clause-text
returns-clause-text c =
    let a = c.args in
    rw (c.seen_line.ensures, c.rows_of-all.ensures.text, c.end_line.ensures)
    (sym (sheet_text_lem a.t.now a.rows a.seen.at))
