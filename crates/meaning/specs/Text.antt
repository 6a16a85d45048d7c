-- Document 01, "Messages": numbers, ids, counters, keys and values in text. Each layout is stated once, as the text that is written:
-- a reader takes exactly these texts, so no second spelling exists.
-- Assumes nothing: these are definitions.
use Rattle.std.specs.Prelude.{ℕ, zero, suc, ◌+◌, ◌-◌, ◌/◌, ◌%◌, ◌^◌, true, false, cond, List, [], ◌∷◌, ◌++◌, ltb, ℤ}
use Rattle.std.specs.Prelude.{pos, negsuc, length, drop}
use Rattle.meaning.specs.Ascii.{ascii, byte}
use Rattle.meaning.specs.Ids.{counter_of, entry_of}
use Rattle.meaning.specs.Places.{Plain, null, bool, integer, string}
use Rattle.meaning.specs.Ways.{Assigned, plain, empty_map, empty_list}

-- the k last decimal digits of x, the greatest first
unfoldable pub digits : ℕ → ℕ → List ℕ
digits zero x = []
digits (suc k) x = (byte "0" + x / 10 ^ k % 10) ∷ digits k x

-- the least n from k on, looked for up to k + f, with x < 10 ^ n
unfoldable pub width_from : ℕ → ℕ → ℕ → ℕ
width_from zero k x = k
width_from (suc f) k x = elim (ltb x (10 ^ k)) [ true ↦ k | false ↦ width_from f (suc k) x ]

-- how many digits x has: the least n from 1 on with x < 10 ^ n
unfoldable pub width : ℕ → ℕ
width x = width_from x 1 x

-- x in decimal: no plus sign, no leading zero
unfoldable pub decimal : ℕ → List ℕ
decimal x = digits (width x) x

-- an integer: `negsuc n` is -(n + 1), so there is no `-0`
unfoldable pub integer_text : ℤ → List ℕ
integer_text (pos n) = decimal n
integer_text (negsuc n) = ascii "-" ++ decimal (suc n)

-- c.r
unfoldable pub id_text : ℕ → List ℕ
id_text i = decimal (counter_of i) ++ (ascii "." ++ decimal (suc (entry_of i)))

-- numbers with commas between them
unfoldable pub comma_text : List ℕ → List ℕ
comma_text [] = []
comma_text (x ∷ xs) = ascii "," ++ (decimal x ++ comma_text xs)

unfoldable pub counters_text : List ℕ → List ℕ
counters_text [] = []
counters_text (x ∷ xs) = decimal x ++ comma_text xs

-- a hex digit, lower case
unfoldable pub hex_digit : ℕ → ℕ
hex_digit n = cond (ltb n 10) (byte "0" + n) (byte "a" + (n - 10))

-- bytes in hex, two digits each
unfoldable pub hex : List ℕ → List ℕ
hex [] = []
hex (b ∷ bs) = hex_digit (b / 16) ∷ hex_digit (b % 16) ∷ hex bs

unfoldable pub plain_text : Plain → List ℕ
plain_text null = ascii "n"
plain_text (bool true) = ascii "t"
plain_text (bool false) = ascii "f"
plain_text (integer n) = ascii "i" ++ integer_text n
plain_text (string b) = ascii "s" ++ hex b

-- a value as a place holds it: how it is listed and saved
abbrev pub stored_text : Plain → List ℕ
stored_text = plain_text

unfoldable pub assigned_text : Assigned → List ℕ
assigned_text (plain v) = plain_text v
assigned_text empty_map = ascii "{"
assigned_text empty_list = ascii "["

-- a caller's buffer whose start is overwritten by a text, the rest untouched
unfoldable pub over : List ℕ → List ℕ → List ℕ
over t buffer = t ++ drop (length t) buffer
