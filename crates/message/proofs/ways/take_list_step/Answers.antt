-- `message::ways::take_list_step` meets its contract.
-- Assumes nothing.
use mathlib.Core.Path.{refl}
use Rattle.message.specs.Reads.{is_element}
use Rattle.message.proofs.ways.take_list_step.Goals as goal

pub returns : goal.returns
returns c = is_element c.in_ok-id.id c.in_default.ensures c.in_ok-id.ensures refl
