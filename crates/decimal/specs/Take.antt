-- What a reader and a writer of a text promise, whatever the text is of. A layout is stated once, as the text that is written.
-- Assumes nothing: these are definitions.
use Rattle.std.specs.Prelude.{ℕ, ◌≤◌, ◌≡◌, List, ◌++◌, length, drop, Option, None, Some}
use Rattle.meaning.specs.Text.{over}

-- The texts of the valid things of a kind, and what may follow the text of each: behind `1` no further digit.
pub record Layout (X : Type 0) : Type 1 where
  pub Valid : X → Type 0
  pub text : X → List ℕ
  pub More : X → List ℕ → Type 0

-- The text of the valid x, and of no other, stands in s at the place a, and n is the place behind it.
pub record Took {X : Type 0} (L : Layout X) (s : List ℕ) (a : ℕ) (x : X) (n : ℕ) : Type 0 where
  pub valid : L.Valid x
  pub text : drop a s ≡ L.text x ++ drop n s
  pub rest : L.More x (drop n s)
  pub within : a ≤ length s → n ≤ length s
  pub only : (y : X) (t : List ℕ) → L.Valid y → L.More y t → drop a s ≡ L.text y ++ t → (y ≡ x) × (t ≡ drop n s)

-- No text of a valid thing stands there.
pub record Never {X : Type 0} (L : Layout X) (s : List ℕ) (a : ℕ) : Type 0 where
  pub not : (x : X) (t : List ℕ) → L.Valid x → L.More x t → drop a s ≡ L.text x ++ t → ⊥

-- What a reader of a layout answers: a thing whose text stands there, and the place behind it; or nothing.
abbrev pub Reads : {X : Type 0} → Layout X → List ℕ → ℕ → Option (X × ℕ) → Type 0
Reads L s a (Some (x, n)) = Took L s a x n
Reads L s a None = Never L s a

-- A text was written at the start of a buffer: n bytes, and the rest of the buffer is as it was.
pub record Wrote (text before after : List ℕ) (n : ℕ) : Type 0 where
  pub size : n ≡ length text
  pub buffer : after ≡ over text before

-- A fixed text, whatever follows.
abbrev pub fixed : List ℕ → Layout (Unit {0})
fixed p = record { Valid = λ u. Unit {0}; text = λ u. p; More = λ u t. Unit {0} }

-- Two texts, one behind the other.
abbrev pub then : {X Y : Type 0} → Layout X → Layout Y → Layout (X × Y)
then A B =
    record { Valid = λ p. A.Valid p.0 × B.Valid p.1; text = λ p. A.text p.0 ++ B.text p.1; More = λ p. B.More p.1 }
