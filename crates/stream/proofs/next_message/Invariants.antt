-- `stream::next_message` meets its contract. The loop's invariant, `Searching`: no message ends from a to e.
-- Assumes nothing.
use Rattle.stream.proofs.Ending.{Searching}
use Rattle.stream.proofs.next_message.Given as goal

abbrev pub invariant-loop-e : goal.invariant-loop-e
invariant-loop-e l = Searching l.s l.a l.e
