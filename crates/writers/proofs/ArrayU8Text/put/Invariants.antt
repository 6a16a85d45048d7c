-- The loop's invariant, `Copying`: the first i bytes are written.
-- Assumes nothing.
use Rattle.writers.proofs.Over.{Copying}
use Rattle.writers.proofs.ArrayU8Text.put.Given as goal

abbrev pub invariant-loop-i : goal.invariant-loop-i
invariant-loop-i g l = Copying l.self l.initial.buf l.buf l.i
