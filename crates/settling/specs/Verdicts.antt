-- Verdicts that drop a waiting operation.
-- Assumes nothing: these are definitions.
use Rattle.std.specs.Prelude.{Bool, true, false, Ok, Err}
use Rattle.judging.specs.Judging.{Judgement}
use Rattle.judging.specs.declared.Refusal.{Refusal}
use Rattle.judging.specs.declared.Refusal.TheVariants as F

-- 3, 4, 8, 9
abbrev pub hopeless : Refusal → Bool
hopeless F.Counter = false
hopeless F.Repeat = true
hopeless F.OwnDeps = true
hopeless F.NoElement = true
hopeless F.NotSmaller = true
hopeless F.NoRoom = false

abbrev pub deadly : Judgement → Bool
deadly (Ok r) = false
deadly (Err r) = hopeless r
