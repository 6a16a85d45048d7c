-- The operations that were passed are rid of the dead.
use Prim.Native.Nat.{◌≤◌, ◌-◌}
use Rattle.meaning.specs.Receive.{Terminal}
use Rattle.keeping.specs.Keeping.{Keeps}
use Rattle.settling.specs.Settling.{memory}
use Rattle.settling.proofs.Sweeping.{Sweeping}
use Rattle.settling.proofs.sweep.Given as goal

abbrev pub invariant-loop-i : goal.invariant-loop-i
invariant-loop-i l =
    (l.count ≤ l.initial.count)
    × ((X : Terminal) → Keeps (memory l.heads l.keys l.marks l.values l.c l.seen l.initial.waiting l.initial.count) X
    → Sweeping (memory l.heads l.keys l.marks l.values l.c l.seen l.waiting l.count) X l.i l.able)

abbrev pub decreases-loop-i : goal.decreases-loop-i
decreases-loop-i l = l.count - l.i
