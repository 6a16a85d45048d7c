-- Document 01, "Messages": keys and strings in hex, as words.
-- Assumes nothing: these are definitions.
use Rattle.std.specs.Prelude.{ℕ, ◌+◌, ◌*◌, ◌≤◌, ◌<◌, ◌≡◌, false, List, [], ◌∷◌, ◌++◌, length, drop, Option, None, Some}
use Rattle.meaning.specs.Valid.{Bytes}
use Rattle.meaning.specs.Text.{hex_digit, hex}
use Rattle.theorems.specs.Decimal.{is_hex, Stops}
use Rattle.decimal.specs.Take.{Layout, Took, Never}
use Rattle.readers.specs.Words.{pack, key_words}
use Rattle.readers.specs.Reads.{keys, strings}
use Rattle.readers.specs.Given.{packed}
use Rattle.readers.specs.declared.hex.Word.{Word}
use Rattle.readers.specs.declared.Key.{Key}
use Rattle.readers.specs.declared.Packed.{Packed}

-- the value of the hex digit c, or c is none
abbrev pub ReadsDigit : ℕ → Option ℕ → Type 0
ReadsDigit c (Some r) = (r < 16) × (c ≡ hex_digit r)
ReadsDigit c None = is_hex c ≡ false

-- a hex digit stands at a, whose value is r
pub record DigitTook (s : List ℕ) (a r : ℕ) : Type 0 where
  pub inside : a < length s
  pub small : r < 16
  pub text : drop a s ≡ hex_digit r ∷ drop (a + 1) s

-- the value of the hex digit that stands at a, or none does
abbrev pub ReadsDigitAt : List ℕ → ℕ → Option ℕ → Type 0
ReadsDigitAt s a (Some r) = DigitTook s a r
ReadsDigitAt s a None = Stops (drop a s)

-- the bytes k stand in hex from a to n, and whatever bytes stand at a begin with them
pub record Hexed (s : List ℕ) (a : ℕ) (k : List ℕ) (n : ℕ) : Type 0 where
  pub bytes : Bytes k
  pub text : drop a s ≡ hex k ++ drop n s
  pub within : a ≤ length s → n ≤ length s
  pub goes : (b t : List ℕ) → Bytes b → Stops t → drop a s ≡ hex b ++ t
      → (r : List ℕ) × (b ≡ k ++ r) × (hex r ++ t ≡ drop n s)

-- at most eight bytes were taken, as a word: eight, or all that stand there
pub record WordTook (s : List ℕ) (a w len next : ℕ) : Type 0 where
  pub key : List ℕ
  pub hexed : Hexed s a key next
  pub long : length key ≡ len
  pub most : len ≤ 8
  pub word : w ≡ pack 8 key
  pub stops : len < 8 → Stops (drop next s)

-- no bytes stand there: a digit lacks its other half
pub record Unhexed (s : List ℕ) (a : ℕ) : Type 0 where
  pub not : (b t : List ℕ) → Bytes b → Stops t → drop a s ≡ hex b ++ t → ⊥

abbrev pub ReadsWord : List ℕ → ℕ → Option (Word × ℕ) → Type 0
ReadsWord s a (Some (w, next)) = WordTook s a w.word w.len next
ReadsWord s a None = Unhexed s a

-- at most m bytes
abbrev pub hexes : ℕ → Layout (List ℕ)
hexes m = record { Valid = λ k. (length k ≤ m) × Bytes k; text = hex; More = λ k. Stops }

-- bytes as four words
pub record HexTook (L : Layout (List ℕ)) (s : List ℕ) (a : ℕ) (r : Packed) (n : ℕ) : Type 0 where
  pub bytes : List ℕ
  pub took : Took L s a bytes n
  pub packs : r ≡ packed bytes

abbrev pub ReadsBytes : Layout (List ℕ) → List ℕ → ℕ → Option (Packed × ℕ) → Type 0
ReadsBytes L s a (Some (r, n)) = HexTook L s a r n
ReadsBytes L s a None = Never L s a

abbrev pub ReadsHex : ℕ → List ℕ → ℕ → Option (Packed × ℕ) → Type 0
ReadsHex count = ReadsBytes (hexes (8 * count))

abbrev pub ReadsString : List ℕ → ℕ → Option (Packed × ℕ) → Type 0
ReadsString = ReadsBytes strings

-- the words of a key that the code holds
abbrev pub words_in : Key → List ℕ
words_in k = k.hi ∷ k.lo ∷ k.len ∷ []

-- a key as three words
pub record KeyTook (s : List ℕ) (a : ℕ) (k : Key) (next : ℕ) : Type 0 where
  pub key : List ℕ
  pub took : Took keys s a key next
  pub words : words_in k ≡ key_words key

abbrev pub ReadsKey : List ℕ → ℕ → Option (Key × ℕ) → Type 0
ReadsKey s a (Some (k, next)) = KeyTook s a k next
ReadsKey s a None = Never keys s a
