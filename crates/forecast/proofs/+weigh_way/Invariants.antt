use Rattle.std.proofs.Common.{length}
use Rattle.forecast.proofs.+weigh_way.Given as goal

-- the words that are left of the way
abbrev pub decreases-weigh_way : goal.decreases-weigh_way
decreases-weigh_way l = length l.way.now
