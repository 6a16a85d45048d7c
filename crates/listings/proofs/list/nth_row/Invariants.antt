-- The loop's invariant: the element that is looked for is the n-th from row i on.
-- Assumes nothing.
use Rattle.listings.proofs.Elements.{Counting}
use Rattle.listings.proofs.list.nth_row.Given as goal

abbrev pub invariant-loop-i : goal.invariant-loop-i
invariant-loop-i l = Counting l.heads l.rows l.from l.depth l.index l.i l.n
