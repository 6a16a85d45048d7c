-- What is left to settle comes to the same.
use Prim.Native.Nat.{◌+◌, ◌≤◌}
use Rattle.meaning.specs.Receive.{Terminal}
use Rattle.keeping.specs.Keeping.{Keeps}
use Rattle.settling.specs.Settling.{memory}
use Rattle.settling.proofs.Rounds.{Underway}
use Rattle.settling.proofs.settle.Given as goal

abbrev pub invariant-loop-settled : goal.invariant-loop-settled
invariant-loop-settled l =
    (l.settled.applied + l.settled.dropped + l.count ≤ l.initial.count) × (l.initial.count ≤ 64)
    × ((X : Terminal)
    → Keeps (memory l.initial.heads l.initial.keys l.initial.marks l.initial.values l.initial.c l.initial.seen l.initial.waiting
    l.initial.count) X
    → Underway X (memory l.heads l.keys l.marks l.values l.c l.seen l.waiting l.count) l.settled.applied l.settled.dropped)

abbrev pub decreases-loop-settled : goal.decreases-loop-settled
decreases-loop-settled l = l.count
