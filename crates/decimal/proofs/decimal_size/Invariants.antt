-- `decimal::decimal_size` meets its contract. The loop's invariant: no power that was passed is above v.
-- Assumes nothing.
use Prim.Native.Nat.{◌-◌, ◌^◌, ◌≤◌, ◌<◌}
use Rattle.decimal.proofs.decimal_size.Given as goal

abbrev pub invariant-loop-n : goal.invariant-loop-n
invariant-loop-n l = 1 < l.n → 10 ^ (l.n - 1) ≤ l.v
