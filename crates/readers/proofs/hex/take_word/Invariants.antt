-- `readers::hex::take_word` meets its contract. The loop's invariant, `Part`: `len` bytes stand from a to n, and `word` holds them.
-- Assumes nothing.
use Rattle.readers.proofs.Taking.{Part}
use Rattle.readers.proofs.hex.take_word.Given as goal

abbrev pub invariant-loop-len : goal.invariant-loop-len
invariant-loop-len l = Part l.s l.a l.word l.len l.n
