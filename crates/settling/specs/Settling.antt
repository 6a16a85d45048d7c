-- What the parts of settling promise of memory that keeps a terminal, and what of any memory.
-- Assumes nothing: these are definitions.
use Rattle.std.specs.Prelude.{ℕ, ◌+◌, ◌-◌, ◌≤◌, ◌<◌, ◌≡◌, Bool, true, false, List, ◌∷◌, ◌++◌, length, Option, None, Some}
use Rattle.meaning.specs.Sets.{keep}
use Rattle.meaning.specs.Ways.{Operation}
use Rattle.meaning.specs.Members.{All}
use Rattle.meaning.specs.Receive.{Terminal, able, nobody, picked, first, settle}
use Rattle.theorems.specs.Settling.{left, rid, next}
use Rattle.judging.specs.Judging.{Judgement, verdict}
use Rattle.keeping.specs.Keeping.{Keeps}
use Rattle.keeping.specs.declared.Memory.{Memory}
use Rattle.tables.specs.declared.Counts.{Counts}
use Rattle.meaning.specs.declared.Counters.{Counters}
use Rattle.apply.specs.Applying.{held}
use Rattle.settling.specs.declared.Rounded.{Rounded}
use Rattle.settling.specs.declared.Settled.{Settled}

-- a terminal's memory that is lent in parts
abbrev pub memory : List ℕ → List ℕ → List ℕ → List ℕ → Counts → Counters → List ℕ → ℕ → Memory
memory h k m v c seen t n = record { document = held h k m v c seen; waiting = t; count = n }

-- the verdict on the operation at i
abbrev pub Looks : Memory → ℕ → Option Judgement → Type 0
Looks M i r =
    (X : Terminal) (A R : List Operation) (o : Operation) → Keeps M X → X.waiting ≡ A ++ o ∷ R → i ≡ length A
    → r ≡ Some (verdict o X.document)

-- the first of some operations that passes a test is at k; or, where none is found, none passes
pub data Spot (p : Operation → Bool) (os : List Operation) : Option ℕ → Type 0 where
  none : All (λ o. p o ≡ false) os → Spot p os None
  spot : (k : ℕ) (A R : List Operation) (o : Operation) → os ≡ A ++ o ∷ R → k ≡ length A → All (λ x. p x ≡ false) A → p o ≡ true
      → Spot p os (Some k)

-- the dead are gone, and it is known which is the first that can be applied
pub record Rid (X : Terminal) (r : Option ℕ) (N : Memory) : Type 0 where
  pub keeps : Keeps N (rid X)
  pub first : Spot (able X.document) (left X) r

pub record Sweeps (M : Memory) (r : Option ℕ) (N : Memory) : Type 0 where
  pub fewer : N.count ≤ M.count
  pub document : N.document ≡ M.document
  pub sweeps : (X : Terminal) → Keeps M X → Rid X r N

-- a round that applies nothing, and one that does
pub record Over (X : Terminal) (N : Memory) : Type 0 where
  pub nobody : first (keep (able X.document) (left X)) ≡ nobody
  pub keeps : Keeps N (rid X)

pub record On (X : Terminal) (N : Memory) : Type 0 where
  pub one : Operation
  pub picked : first (keep (able X.document) (left X)) ≡ picked one
  pub keeps : Keeps N (next X one)

pub record Round (X : Terminal) (r : Rounded) (N : Memory) : Type 0 where
  pub gone : r.dropped ≡ length X.waiting - length (left X)
  pub over : r.applied ≡ false → Over X N
  pub on : r.applied ≡ true → On X N

pub record Rounds (M : Memory) (r : Rounded) (N : Memory) : Type 0 where
  pub fewer : r.dropped + N.count ≤ M.count
  pub less : r.applied ≡ true → r.dropped + N.count < M.count
  pub rounds : (X : Terminal) → Keeps M X → Round X r N

-- the terminal is settled
pub record Rests (X : Terminal) (r : Settled) (N : Memory) : Type 0 where
  pub keeps : Keeps N (settle X).terminal
  pub applied : r.applied ≡ length (settle X).applied
  pub dropped : r.dropped ≡ (settle X).dropped

-- of any memory; where more wait than there is room for, nothing is done
pub record Settles (M : Memory) (r : Settled) (N : Memory) : Type 0 where
  pub few : r.applied ≤ 64
  pub beyond : 64 < M.count → (r ≡ record { applied = 0; dropped = 0 }) × (N ≡ M)
  pub settles : (X : Terminal) → Keeps M X → Rests X r N
