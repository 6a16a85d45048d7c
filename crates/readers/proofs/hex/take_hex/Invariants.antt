-- `readers::hex::take_hex` meets its contract. The loop's invariant, `Parts`: as many full words as were passed stand from a to n.
-- Assumes nothing.
use Rattle.readers.proofs.Taking.{Parts}
use Rattle.readers.proofs.hex.take_hex.Given as goal

abbrev pub invariant-loop-place : goal.invariant-loop-place
invariant-loop-place l = Parts l.s l.a l.count l.place-items l.len l.n l.place-index
