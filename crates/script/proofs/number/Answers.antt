-- `script::number` meets its contract: the number is taken where the text ends.
-- Assumes nothing.
use Rattle.script.proofs.Finding.{no_text, behind_text}
use Rattle.script.proofs.number.Goals as goal

pub returns-in_err-n : goal.returns-in_err-n
returns-in_err-n c = rw c.from_residual.ensures (no_text _ _ _ _ c.in_err-n.ensures)

pub returns : goal.returns
returns c = behind_text _ _ _ _ _ c.in_ok-n.ensures _ c.take_decimal.ensures
