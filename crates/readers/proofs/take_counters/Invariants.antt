-- `readers::take_counters` meets its contract. The loop's invariant, `State`: the first counter and those that the loop has passed stand
-- from a to n, and the others would follow there.
-- Assumes nothing.
use Prim.Native.Nat.{suc}
use mathlib.Core.List.{◌∷◌}
use Rattle.readers.proofs.Commas.{State}
use Rattle.readers.proofs.take_counters.Given as goal

abbrev pub invariant-loop-counter : goal.invariant-loop-counter
invariant-loop-counter l = State l.s l.a (suc l.counter-index) l.n (l.first ∷ l.counter-items)
