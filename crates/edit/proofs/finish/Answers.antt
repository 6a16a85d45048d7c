-- `edit::finish` meets its contract: its message doesn't fit; or it is applied and written, and what waits is settled.
-- Assumes nothing.
use Rattle.edit.proofs.Editing.{finish-short, finish-applied}
use Rattle.edit.proofs.finish.Goals as goal

pub returns-then-buf-needed : goal.returns-then-buf-needed
returns-then-buf-needed c =
    finish-short _ _ _ c.args.op _ _ c.message_head.ensures c.size-needed.ensures c.if-buf-needed.true

pub returns : goal.returns
returns c =
    finish-applied _ _ _ c.args.op _ _ c.message_head.ensures c.size-needed.ensures c.if-buf-needed.false _ c.take_in.ensures _ _
    c.put-written.ensures _ _ c.settle_in-settled.ensures
