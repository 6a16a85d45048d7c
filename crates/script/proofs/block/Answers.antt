-- `script::block` meets its contract: behind the first line's LF stand the bytes and their LF, or they don't.
-- Assumes nothing.
use Rattle.script.proofs.Finding.{no_line_end, too_few, no_end, a_block}
use Rattle.script.proofs.block.Goals as goal

pub returns-in_err-from : goal.returns-in_err-from
returns-in_err-from c = rw c.from_residual.ensures (no_line_end _ _ _ c.in_err-from.ensures)

pub returns-then-s-from : goal.returns-then-s-from
returns-then-s-from c = too_few _ _ _ _ c.in_ok-from.ensures c.if-s-from.true

pub returns-in_err-next : goal.returns-in_err-next
returns-in_err-next c = rw c.from_residual-in_err-next.ensures (no_end _ _ _ _ c.in_ok-from.ensures c.in_err-next.ensures)

pub returns : goal.returns
returns c = a_block _ _ _ _ c.in_ok-from.ensures _ c.in_ok-next.ensures
