-- By the case of the next piece.
use mathlib.Core.Path.{sym}
use Rattle.feed.proofs.Feeding.{going_none, going_message, going_long, going_ends}
use Rattle.feed.proofs.take_in.Goals as goal

pub loop-next-init : goal.loop-next-init
loop-next-init c = going_none _ _ _ _ c.requires

pub loop-next-preserved-in-Message : goal.loop-next-preserved-in-Message
loop-next-preserved-in-Message c =
    going_message c.loop-next.invariant _ c.in-Message.ensures.steps (sym c.in-Message.ensures.value) c.receive.ensures

pub loop-next-preserved : goal.loop-next-preserved
loop-next-preserved c = going_long c.loop-next.invariant c.in-TooLong.ensures.steps (sym c.in-TooLong.ensures.value)

pub returns-in-More : goal.returns-in-More
returns-in-More c = going_ends c.loop-next.invariant c.in-More.ensures.steps (sym c.in-More.ensures.value)
