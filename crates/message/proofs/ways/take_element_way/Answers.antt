-- `message::ways::take_element_way` meets its contract.
-- Assumes nothing.
use Rattle.message.proofs.Places.{ahead, no_bracket, behind_bracket}
use Rattle.message.proofs.ways.take_element_way.Goals as goal

pub returns-in_err-strip_suffix : goal.returns-in_err-strip_suffix
returns-in_err-strip_suffix c = rw c.from_residual.ensures (no_bracket _ c.in_err-strip_suffix.ensures.cases)

pub returns : goal.returns
returns c =
    let h = c.in_ok-strip_suffix.ensures in
    behind_bracket _ _ _ (ahead _ _ _ h.cases.0 h.cases.1) c.take_place_way.ensures
