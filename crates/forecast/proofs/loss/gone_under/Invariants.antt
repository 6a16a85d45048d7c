-- `forecast::loss::gone_under` meets its contract: the rows before the place have been counted. Assumes nothing.
use Prim.Native.Nat.{◌-◌}
use Rattle.forecast.proofs.Goes.{Going}
use Rattle.forecast.proofs.loss.gone_under.Given as goal

abbrev pub invariant-loop-at : goal.invariant-loop-at
invariant-loop-at l = Going l.heads l.marks l.values l.rows l.initial.at l.n l.d.at l.at l.sum

abbrev pub decreases-loop-at : goal.decreases-loop-at
decreases-loop-at l = l.rows - l.at.row
