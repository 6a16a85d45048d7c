-- Document 01, "Places" and "The saved sheet": what is true of every document. Theorems: it is kept by every operation, and it says exactly
-- which sheets are accepted.
-- Assumes nothing: these are definitions.
use Rattle.std.specs.Prelude.{ℕ, suc, ◌≤◌, ◌<◌, ◌≡◌, Bool, true, List}
use Rattle.meaning.specs.Places.{Value, before, order, Place, place, Children, childless, child, Elements, empty, element, Document}
use Rattle.meaning.specs.Members.{All, Has, Ascending, own, id_of_value}
use Rattle.meaning.specs.Valid.{ValidCounters, ValidKey, ValidStored}
use Rattle.meaning.specs.Sheet.{rows_of}
use Rattle.meaning.specs.Load.{Seen, times}

-- the marks and values of a place; P holds of the ids that may mark it
pub record Own (P : ℕ → Type 0) (ms : List ℕ) (vs : List Value) : Type 0 where
  pub marks : Ascending own ms
  pub values : Ascending id_of_value vs
  pub among : (j : ℕ) → Has own j ms → P j
  pub marked : (j : ℕ) → Has id_of_value j vs → Has own j ms
  pub valid : All (λ v. ValidStored v.val) vs

-- a branch with something under it has its flag
abbrev pub Mapped : Children → Bool → Type 0
Mapped childless m = Unit {0}
Mapped (child k c ks) m = m ≡ true

abbrev pub Listed : Elements → Bool → Type 0
Listed empty l = Unit {0}
Listed (element i c es) l = l ≡ true

-- each key comes behind k
abbrev pub Below : List ℕ → Children → Type 0
Below k childless = Unit {0}
Below k (child j c ks) = (order k j ≡ before) × Below k ks

-- P holds of the ids that may mark a place: those that mark its parent; n is the depth of what hangs under it
abbrev mutual
  pub SoundPlace : (ℕ → Type 0) → ℕ → Place → Type 0
  SoundPlace P n (place m l ms vs ks es) =
      Own P ms vs × Mapped ks m × Listed es l × SoundChildren (λ j. Has own j ms) n ks × SoundElements (λ j. Has own j ms) n es

  pub SoundChildren : (ℕ → Type 0) → ℕ → Children → Type 0
  SoundChildren P n childless = Unit {0}
  SoundChildren P n (child k c ks) = (ValidKey k × (n ≤ 8)) × Below k ks × SoundPlace P (suc n) c × SoundChildren P n ks

  pub SoundElements : (ℕ → Type 0) → ℕ → Elements → Type 0
  SoundElements P n empty = Unit {0}
  SoundElements P n (element i c es) = (n ≤ 8) × SoundPlace P (suc n) c × SoundElements P n es

pub record Sound (D : Document) : Type 0 where
  pub seen : ValidCounters D.seen
  pub places : SoundChildren (Seen D.seen) 1 D.root
  -- an element id stands once in the document, and is covered by seen
  pub once : (e : ℕ) → times e (rows_of D) ≤ 1
  pub known : (e : ℕ) → 0 < times e (rows_of D) → Seen D.seen e
