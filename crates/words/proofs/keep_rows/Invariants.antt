-- `words::keep_rows` meets its contract: i rows have been tried. Assumes nothing.
use Rattle.meaning.specs.Ids.{uncovered}
use Rattle.words.proofs.Moves.{Lowering}
use Rattle.words.proofs.Rows.{Keeping}
use Rattle.words.proofs.keep_rows.Given as goal

abbrev pub invariant-loop-i : goal.invariant-loop-i
invariant-loop-i g l = Keeping g.row.W (uncovered l.d.at) l.from l.to l.i l.w l.initial.t l.t

abbrev pub invariant-loop-k : goal.invariant-loop-k
invariant-loop-k g l = Lowering l.at l.w l.k l.initial.t l.t
