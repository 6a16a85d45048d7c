-- `message::lines::take_deed` meets its contract.
-- Assumes nothing.
use Rattle.message.proofs.Deeds.{an_assign, an_insert}
use Rattle.message.proofs.lines.take_deed.Goals as goal

pub returns-in-Some : goal.returns-in-Some
returns-in-Some c = an_assign _ _ _ c.in-Some.ensures _ _ c.in_ok-given.ensures

pub returns-in-Some-take_text : goal.returns-in-Some-take_text
returns-in-Some-take_text c = an_insert _ _ _ c.in-Some-take_text.ensures _ _ c.in_ok-given-2.ensures
