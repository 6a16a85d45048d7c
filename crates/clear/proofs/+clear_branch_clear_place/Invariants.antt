-- `clear::clear_place` and `clear::clear_branch`, which call each other. The measure is twice the levels that are left, and one more for a
-- place. The loop's invariant: the rows gone over are cleared (proofs/Branch). Assumes nothing.
use Prim.Native.Nat.{◌+◌, ◌-◌}
use mathlib.Core.Path.{◌≡◌}
use lib.ListN.{length}
use Rattle.clear.specs.Clear.{passing}
use Rattle.clear.proofs.Branch.{Walks}
use Rattle.clear.proofs.+clear_branch_clear_place.Given as goal

abbrev pub decreases-clear_branch : goal.decreases-clear_branch
decreases-clear_branch l = l.left + l.left

abbrev pub decreases-clear_place : goal.decreases-clear_place
decreases-clear_place l = l.left + l.left + 1

abbrev pub invariant-clear_branch-loop-q : goal.invariant-clear_branch-loop-q
invariant-clear_branch-loop-q l =
    (length l.heads ≡ length l.initial.heads)
    × (length l.marks ≡ length l.initial.marks)
    × (length l.values ≡ length l.initial.values)
    × Walks l.d.at l.rows l.n l.left (passing l.initial.heads l.initial.marks l.initial.values l.initial.q) (passing l.heads l.marks l.values l.q)

abbrev pub decreases-clear_branch-loop-q : goal.decreases-clear_branch-loop-q
decreases-clear_branch-loop-q l = l.rows - l.q.row
