use Rattle.std.proofs.Common.{length}
use Rattle.finder.proofs.+follow_under.Given as goal

-- the words that are left of the way
abbrev pub decreases-follow_under : goal.decreases-follow_under
decreases-follow_under l = length l.words.now
