-- `decimal::put_decimal` meets its contract. The loop's invariant, `Writing`: the digits from i on are written, and x is what stands
-- before them.
-- Assumes nothing.
use Rattle.decimal.proofs.Runs.{Writing}
use Rattle.decimal.proofs.put_decimal.Given as goal

abbrev pub invariant-loop-i : goal.invariant-loop-i
invariant-loop-i l = Writing l.v l.n l.initial.buf l.buf l.x l.i
