-- The loop's invariant: all rows before i are of the map, with keys of this size.
-- Assumes nothing.
use Rattle.listings.proofs.Mapped.{Going}
use Rattle.listings.proofs.map.extent.Given as goal

abbrev pub invariant-loop-i : goal.invariant-loop-i
invariant-loop-i l = Going l.heads l.keys l.depth l.rows l.from l.i l.size
