-- `message::take_head` meets its contract: each part is taken where the one before it ends.
-- Assumes nothing.
use Rattle.message.proofs.Messages.{no_op, no_deps, no_feed}
use Rattle.message.proofs.take_head.Goals as goal

pub returns-in_err-n : goal.returns-in_err-n
returns-in_err-n c = rw c.from_residual.ensures (no_op _ c.in_err-n.ensures)

pub returns-in_err-o : goal.returns-in_err-o
returns-in_err-o c =
    rw c.from_residual-in_err-o.ensures (no_deps _ _ c.in_ok-n.ensures _ _ c.in_ok-id.ensures c.in_err-o.ensures)

pub returns-in_err-next : goal.returns-in_err-next
returns-in_err-next c =
    rw c.from_residual-in_err-next.ensures
    (no_feed _ _ c.in_ok-n.ensures _ _ c.in_ok-id.ensures _ c.in_ok-o.ensures _ _ c.in_ok-deps.ensures c.in_err-next.ensures)
