-- The verdict on the operation that was read.
use Rattle.settling.proofs.Looking.{looks_none, looks_whole}
use Rattle.settling.proofs.look.Goals as goal

pub returns-in_err-op : goal.returns-in_err-op
returns-in_err-op c = rw c.from_residual.ensures (looks_none _ _ (rw c.in_err-op.was at c.op_at.ensures))

pub returns : goal.returns
returns c = looks_whole _ _ _ _ c.in_ok-op.ensures c.judge.ensures
