-- The loop's invariant, `Hexing`: the first i bytes are written.
-- Assumes nothing.
use Rattle.writers.proofs.Bytes.{Hexing}
use Rattle.writers.proofs.hex.put_bytes.Given as goal

abbrev pub invariant-loop-i : goal.invariant-loop-i
invariant-loop-i l = Hexing l.words l.n l.initial.buf l.buf l.i
