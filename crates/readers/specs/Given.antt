-- Document 01, "Messages": values as they are read, an enum case each; a string with its words.
-- Assumes nothing: these are definitions.
use Rattle.std.specs.Prelude.{ℕ, ◌≡◌, true, false, List, pos, negsuc, length, Option, None, Some}
use Rattle.meaning.specs.Places.{null, bool, integer, string}
use Rattle.meaning.specs.Ways.{Assigned, plain, empty_map, empty_list}
use Rattle.decimal.specs.Take.{Layout, Took, Never}
use Rattle.readers.specs.Words.{words_of}
use Rattle.readers.specs.Reads.{integers, strings, plains, assigned}
use Rattle.readers.specs.declared.Packed.{Packed}
use Rattle.readers.specs.declared.Given.{Given}
use Rattle.readers.specs.declared.Given.TheVariants as G
use Rattle.readers.specs.declared.Integer.{Integer}
use Rattle.readers.specs.declared.Integer.TheVariants as Z

-- a string's bytes as four words, and how many they are
abbrev pub packed : List ℕ → Packed
packed b = record { words = words_of 4 b; len = length b }

-- the case of a value
unfoldable pub given_of : Assigned → Given
given_of (plain null) = G.Null
given_of (plain (bool true)) = G.True
given_of (plain (bool false)) = G.False
given_of (plain (integer (pos n))) = G.NonNeg n
given_of (plain (integer (negsuc n))) = G.Neg n
given_of (plain (string b)) = G.String (packed b)
given_of empty_map = G.Map
given_of empty_list = G.List

abbrev pub given_integer : Integer → Given
given_integer (Z.NonNeg n) = G.NonNeg n
given_integer (Z.Neg n) = G.Neg n

-- a value was taken, and this is its case
pub record GivenTook {X : Type 0} (L : Layout X) (of : X → Assigned) (s : List ℕ) (a : ℕ) (g : Given) (n : ℕ) : Type 0 where
  pub value : X
  pub took : Took L s a value n
  pub given : g ≡ given_of (of value)

abbrev pub ReadsGiven : {X : Type 0} → Layout X → (X → Assigned) → List ℕ → ℕ → Option (Given × ℕ) → Type 0
ReadsGiven L of s a (Some (g, n)) = GivenTook L of s a g n
ReadsGiven L of s a None = Never L s a

abbrev pub ReadsPlain : List ℕ → ℕ → Option (Given × ℕ) → Type 0
ReadsPlain = ReadsGiven plains plain

abbrev pub ReadsAssigned : List ℕ → ℕ → Option (Given × ℕ) → Type 0
ReadsAssigned = ReadsGiven assigned (λ v. v)

-- an integer or a string, without the letter ahead of it
abbrev pub ReadsNumberValue : List ℕ → ℕ → Option (Given × ℕ) → Type 0
ReadsNumberValue = ReadsGiven integers (λ z. plain (integer z))

abbrev pub ReadsBytesValue : List ℕ → ℕ → Option (Given × ℕ) → Type 0
ReadsBytesValue = ReadsGiven strings (λ b. plain (string b))
