-- `decimal::take_decimal` meets its contract. The loop's invariant, `Run`: what was passed are digits, and v is their number.
-- Assumes nothing.
use Rattle.decimal.proofs.Runs.{Run}
use Rattle.decimal.proofs.take_decimal.Given as goal

abbrev pub invariant-loop-n : goal.invariant-loop-n
invariant-loop-n l = Run l.max l.s l.a l.rest l.n l.v
