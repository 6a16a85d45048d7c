-- `readers::take_integer` meets its contract.
-- Assumes nothing.
use Rattle.readers.proofs.Integers.{non_neg, neg}
use Rattle.readers.proofs.take_integer.Goals as goal

pub returns-in_default : goal.returns-in_default
returns-in_default c = non_neg _ _ c.in_default.ensures _ _ c.in_ok-value.ensures

pub returns : goal.returns
returns c = neg _ _ _ c.in-Some.ensures _ _ c.in_ok-value-2.ensures
