-- An operation that was judged so is taken, from where the search for its first key stops.
use Rattle.apply.proofs.Carrying.{takes_at}
use Rattle.apply.proofs.take_at.Goals as goal

pub returns : goal.returns
returns c = takes_at _ c.args.op _ _ _ _ c.carry_out.ensures c.raise.ensures
