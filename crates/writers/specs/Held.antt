-- Document 01, "Places": plain values as the tables hold them. A string's bytes stand in words (specs/Words), the rest in numbers. A number
-- that is no kind's counts as null.
-- Assumes nothing: these are definitions.
use Rattle.std.specs.Prelude.{ℕ, ◌-◌, ◌≤◌, true, false, cond, List, ltb, eqb, pos, negsuc, get_or}
use Rattle.meaning.specs.Places as places
use Rattle.meaning.specs.Places.{Plain}
use Rattle.writers.specs.Words.{bytes_of}
use Rattle.writers.specs.declared.plain.Kind.{Kind}
use Rattle.writers.specs.declared.plain.Kind.TheVariants.{Null, True, False, NonNeg, Neg, String}

-- the kind of a value by its number, and by the first of its words, which is an integer's
unfoldable pub kind_in : ℕ → ℕ → Kind
kind_in k n =
    cond (eqb k 1) True
    (cond (eqb k 2) False
    (cond (eqb k 3) (cond (ltb 9223372036854775807 n) Null (NonNeg n))
    (cond (eqb k 4) (cond (ltb 9223372036854775807 n) Null (Neg n))
    (cond (ltb k 5) Null (cond (ltb 37 k) Null (String (k - 5)))))))

-- the plain value of a kind; a string's bytes stand in the words
abbrev pub plain_of : Kind → List ℕ → Plain
plain_of Null words = places.null
plain_of True words = places.bool true
plain_of False words = places.bool false
plain_of (NonNeg n) words = places.integer (pos n)
plain_of (Neg n) words = places.integer (negsuc n)
plain_of (String len) words = places.string (bytes_of words len)

-- the plain value that a kind's number and four words say
abbrev pub plain_in : ℕ → List ℕ → Plain
plain_in k words = plain_of (kind_in k (get_or words 0 0)) words

-- integers and strings within document 01's bounds
abbrev pub InBounds : Kind → Type 0
InBounds Null = Unit {0}
InBounds True = Unit {0}
InBounds False = Unit {0}
InBounds (NonNeg n) = n ≤ 9223372036854775807
InBounds (Neg n) = n ≤ 9223372036854775807
InBounds (String len) = len ≤ 32
