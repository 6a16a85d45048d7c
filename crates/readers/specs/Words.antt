-- Keys and plain values as words. Bytes stand eight to a word, the first the greatest, and 0 for those that are missing. A key is three
-- words: its first eight bytes, the next eight, and its length. Compared word by word keys stand in their order: byte order, a shorter key
-- before its extension (specs/Order.antt). So the tables compare keys without looking at bytes.
-- Assumes nothing: these are definitions.
use Rattle.std.specs.Prelude.{ℕ, zero, suc, ◌+◌, ◌*◌, true, false, List, [], ◌∷◌, pos, negsuc, length, drop}
use Rattle.meaning.specs.Places.{Plain, null, bool, integer, string}
use Rattle.meaning.specs.Ways.{Assigned, plain, empty_map, empty_list}

-- what a byte weighs that m bytes follow
unfoldable pub weight : ℕ → ℕ
weight zero = 1
weight (suc m) = 256 * weight m

-- the first m bytes as a number
unfoldable pub pack : ℕ → List ℕ → ℕ
pack zero k = 0
pack (suc m) [] = 0
pack (suc m) (b ∷ k) = b * weight m + pack m k

-- bytes as n words
unfoldable pub words_of : ℕ → List ℕ → List ℕ
words_of zero k = []
words_of (suc n) k = pack 8 k ∷ words_of n (drop 8 k)

-- the three words of a key
abbrev pub key_words : List ℕ → List ℕ
key_words k = pack 8 k ∷ pack 8 (drop 8 k) ∷ length k ∷ []

-- the four words of a value: a string's bytes, and of any other none
unfoldable pub value_words : Assigned → List ℕ
value_words (plain null) = words_of 4 []
value_words (plain (bool b)) = words_of 4 []
value_words (plain (integer n)) = words_of 4 []
value_words (plain (string k)) = words_of 4 k
value_words empty_map = words_of 4 []
value_words empty_list = words_of 4 []

-- the five words of a plain value: its kind, and four words
abbrev pub plain_words : Plain → List ℕ
plain_words null = 0 ∷ 0 ∷ 0 ∷ 0 ∷ 0 ∷ []
plain_words (bool true) = 1 ∷ 0 ∷ 0 ∷ 0 ∷ 0 ∷ []
plain_words (bool false) = 2 ∷ 0 ∷ 0 ∷ 0 ∷ 0 ∷ []
plain_words (integer (pos n)) = 3 ∷ n ∷ 0 ∷ 0 ∷ 0 ∷ []
plain_words (integer (negsuc n)) = 4 ∷ n ∷ 0 ∷ 0 ∷ 0 ∷ []
plain_words (string b) = (5 + length b) ∷ words_of 4 b
