-- `words::covered_rows` meets its contract: i rows have been tried. Assumes nothing.
use Rattle.meaning.specs.Ids.{uncovered}
use Rattle.words.proofs.Rows.{Counting}
use Rattle.words.proofs.covered_rows.Given as goal

abbrev pub invariant-loop-i : goal.invariant-loop-i
invariant-loop-i g l = Counting g.row.W (uncovered l.d.at) l.from l.i l.r l.t
