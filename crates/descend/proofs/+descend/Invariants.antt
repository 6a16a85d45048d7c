use Rattle.std.proofs.Common.{length}
use Rattle.descend.proofs.+descend.Given as goal

-- the words that are left of the way
abbrev pub decreases-descend : goal.decreases-descend
decreases-descend l = length l.way.now
