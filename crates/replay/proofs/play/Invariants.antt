-- `replay::play` is safe and ends. The invariant: the buffer stays as long as it is, and the cut lies in it. Assumes nothing.
use mathlib.Core.Path.{◌≡◌}
use lib.ListN.{length}
use Rattle.stream.specs.Pieces.{CutInside}
use Rattle.replay.proofs.play.Given as goal

abbrev pub invariant-loop : goal.invariant-loop
invariant-loop l = (length l.buf ≡ length l.initial.buf) × CutInside l.buf l.cut
