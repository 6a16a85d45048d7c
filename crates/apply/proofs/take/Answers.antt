-- An operation that was judged so is taken.
use mathlib.Core.Path.{refl}
use Rattle.apply.proofs.Carrying.{takes_on}
use Rattle.apply.proofs.take.Goals as goal

pub returns : goal.returns
returns c = takes_on _ c.args.op _ _ (c.top_of-top.ensures _ _ _ refl) c.take_at.ensures
