-- `words::rank_rows` meets its contract: the first i rows have a smaller id. Assumes nothing.
use Rattle.words.proofs.Rows.{Ranking}
use Rattle.words.proofs.rank_rows.Given as goal

abbrev pub invariant-loop-i : goal.invariant-loop-i
invariant-loop-i l = Ranking l.w l.id l.from l.n l.i l.t
