-- Document 01, "The saved sheet", last paragraph: how `merge` reads standard input, as data: the reads one after another, what each
-- answered, which bytes it brought, and how reading ended. That the answers are those of the system, and the bytes those of standard
-- input, no contract can say (docs/DECISIONS.md, 59): a run is 'some reads', and the proof of `read_on` names the answers.
-- Assumes nothing: these are definitions.
use Rattle.std.specs.Prelude.{ℕ, zero, suc, ◌≡◌, Bool, true, false, List, [], ◌∷◌, ◌++◌, map, eqb, ℤ, pos, negsuc, length}
use Rattle.std.specs.Prelude.{Option, Some, None, Result, Ok, Err}
use Rattle.std.specs.IoError.{raw_os_error}
use Rattle.std.specs.declared.io.Error.{Error}
use Rattle.stream.specs.Pieces.{joined}

-- what a read tells: reading goes on; the input has ended; reading has failed
pub data Told : Type 0 where
  onward : Told
  end : Told
  failure : Told

-- the error number that tells that a read was interrupted before a byte came
abbrev pub interruption : ℤ → Bool
interruption (pos k) = eqb k 4
interruption (negsuc k) = false

abbrev pub interrupts : Option ℤ → Bool
interrupts (Some errno) = interruption errno
interrupts None = false

-- An error is a failure, or tells that the read was interrupted.
abbrev pub stopped : Bool → Told
stopped true = onward
stopped false = failure

-- what a read tells by its answer: a number of bytes, or an error
abbrev pub told : Result ℕ Error → Told
told (Ok zero) = end
told (Ok (suc k)) = onward
told (Err e) = stopped (interrupts (raw_os_error e))

-- how many bytes a read has brought that answered this
abbrev pub brought : Result ℕ Error → ℕ
brought (Ok n) = n
brought (Err e) = 0

-- A read: its answer, and the bytes that it brought, as many as it answered.
pub record Read : Type 0 where
  pub got : Result ℕ Error
  pub chunk : List ℕ
  pub long : length chunk ≡ brought got

abbrev pub tells : Read → Told
tells r = told r.got

abbrev pub chunks : List Read → List (List ℕ)
chunks reads = map (λ r. r.chunk) reads

-- all bytes that were read
abbrev pub input : List Read → List ℕ
input reads = joined (chunks reads)

-- reading goes on behind each of these
abbrev pub GoesOn : List Read → Type 0
GoesOn [] = Unit
GoesOn (r ∷ reads) = (tells r ≡ onward) × GoesOn reads

-- Reading goes on behind each of these but the last, which tells this.
pub record Until (reads : List Read) (what : Told) : Type 0 where
  pub before : List Read
  pub last : Read
  pub are : reads ≡ before ++ last ∷ []
  pub on : GoesOn before
  pub told : tells last ≡ what

-- how reading ended: with the input; with a failure; or all turns of the loop were used up
pub data Ending : Type 0 where
  ended : Ending
  failed : Ending
  worn_out : Ending

-- The turns are counted down from 2^64 - 1.
abbrev pub Ends : List Read → Ending → Type 0
Ends reads ended = Until reads end
Ends reads failed = Until reads failure
Ends reads worn_out = GoesOn reads × (length reads ≡ 18446744073709551615)

-- all went well
abbrev pub well : Ending → Bool
well ended = true
well failed = false
well worn_out = false

-- what was read is fed to its end
abbrev pub closed : Ending → Bool
closed ended = true
closed failed = true
closed worn_out = false
