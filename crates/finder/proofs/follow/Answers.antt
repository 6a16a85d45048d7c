-- `finder::follow` meets its contract. Assumes nothing.
use Rattle.finder.proofs.Follows.{follows_root}
use Rattle.finder.proofs.follow.Goals as goal

pub returns : goal.returns
returns c = follows_root _ _ _ _ c.follow_under.result c.follow_under.ensures
