-- What was found by the sweep is taken out and applied.
use Rattle.settling.proofs.Rounds.{rounds_over, rounds_none, rounds_cut, rounds_on}
use Rattle.settling.proofs.round.Goals as goal

pub returns-in_default : goal.returns-in_default
returns-in_default c = rounds_over _ _ _ c.sweep-able.ensures c.in_default.is

pub returns-in_default-op_at : goal.returns-in_default-op_at
returns-in_default-op_at c = rounds_none _ _ _ c.sweep-able.ensures _ c.in-Some.is c.in_default-op_at.ensures

pub returns-in_default-take_out : goal.returns-in_default-take_out
returns-in_default-take_out c =
    rounds_cut _ _ _ c.sweep-able.ensures _ c.in-Some.is _ _ c.take_out.ensures c.in_default-take_out.is

pub returns : goal.returns
returns c =
    rounds_on _ _ _ c.sweep-able.ensures _ c.in-Some.is _ _ c.take_out.ensures _ c.in-Some-op_at.ensures _ c.take.ensures _
    c.in-Some-take_out.is
