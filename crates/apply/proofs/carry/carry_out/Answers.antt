-- An operation is carried out along its way.
use native.Mathlib.Omega.{arith}
use mathlib.Core.Path.{refl}
use Rattle.apply.proofs.Carrying.{carry_long, carry_way}
use Rattle.apply.proofs.carry.carry_out.Goals as goal

pub returns-then-n-gt8 : goal.returns-then-n-gt8
returns-then-n-gt8 c = carry_long _ _ _ c.args.op c.if-n-gt8.true

pub returns : goal.returns
returns c = carry_way _ _ _ _ _ c.args.op _ _ refl c.descend-e.ensures
