-- `message::ways::take_way` meets its contract. The loop's invariant, `State`: the first key and further steps stand from a to `next`.
-- Assumes nothing.
use Prim.Native.Nat.{◌-◌}
use Rattle.message.proofs.Trails.{State}
use Rattle.message.proofs.ways.take_way.Given as goal

abbrev pub invariant-loop-way : goal.invariant-loop-way
invariant-loop-way l = State l.s l.a l.way l.last l.next

abbrev pub decreases-loop-way : goal.decreases-loop-way
decreases-loop-way l = 8 - l.way.n
