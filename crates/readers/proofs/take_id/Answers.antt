-- `readers::take_id` meets its contract.
-- Assumes nothing.
use Rattle.readers.proofs.Ids.{found}
use Rattle.readers.proofs.take_id.Goals as goal

pub returns : goal.returns
returns c = found _ _ _ _ c.in_ok-c.ensures _ c.in_ok-m.ensures _ _ c.in_ok-r.ensures
