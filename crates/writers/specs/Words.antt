-- Bytes that are held as words, eight to a word, the first byte greatest: a key as two words and its length, a string as four.
-- Assumes nothing: these are definitions.
use Rattle.std.specs.Prelude.{ℕ, zero, suc, ◌-◌, ◌/◌, ◌%◌, ◌^◌, List, [], ◌∷◌, ◌++◌, get_or}

-- byte i
unfoldable pub byte_of : List ℕ → ℕ → ℕ
byte_of words i = get_or words (i / 8) 0 / 256 ^ (7 - i % 8) % 256

-- the first n bytes
unfoldable pub bytes_of : List ℕ → ℕ → List ℕ
bytes_of words zero = []
bytes_of words (suc n) = bytes_of words n ++ (byte_of words n ∷ [])
