-- Document 01, "Messages": what each reader takes. A layout says which things are valid, their texts, and what may follow; a reader answers
-- the thing whose text stands at a place, or that none does.
-- Assumes nothing: these are definitions.
use Rattle.std.specs.Prelude.{ℕ, ◌≤◌, List, ◌++◌, ℤ, pos, negsuc, Option, None, Some}
use Rattle.meaning.specs.Places.{Plain, null, bool, integer, string}
use Rattle.meaning.specs.Ways.{Assigned, plain, empty_map, empty_list}
use Rattle.meaning.specs.Valid.{ValidId, ValidCounters, ValidKey, ValidString, ValidPlain, ValidAssigned}
use Rattle.meaning.specs.Ascii.{ascii}
use Rattle.meaning.specs.Text.{decimal, integer_text, id_text, counters_text, hex, plain_text, assigned_text}
use Rattle.theorems.specs.Decimal.{Stops}
use Rattle.meaning.specs.declared.Counters.{Counters}
use Rattle.decimal.specs.Take.{Layout, Took, Never, Reads, fixed}
use Rattle.decimal.specs.Numbers.{NoDigit}
use Rattle.readers.specs.declared.Integer.{Integer}
use Rattle.readers.specs.declared.Integer.TheVariants as Z

abbrev pub ids : Layout ℕ
ids = record { Valid = ValidId; text = id_text; More = λ i. NoDigit }

abbrev pub counters : Layout (List ℕ)
counters = record { Valid = ValidCounters; text = counters_text; More = λ s. NoDigit }

-- a comma and a counter
abbrev pub comma_numbers : Layout ℕ
comma_numbers = record { Valid = λ x. x ≤ 4294967295; text = λ x. ascii "," ++ decimal x; More = λ x. NoDigit }

abbrev pub integers : Layout ℤ
integers = record { Valid = λ z. ValidPlain (integer z); text = integer_text; More = λ z. NoDigit }

abbrev pub keys : Layout (List ℕ)
keys = record { Valid = ValidKey; text = hex; More = λ k. Stops }

abbrev pub strings : Layout (List ℕ)
strings = record { Valid = ValidString; text = hex; More = λ b. Stops }

-- what may follow a value
abbrev pub MorePlain : Plain → List ℕ → Type 0
MorePlain null t = Unit {0}
MorePlain (bool b) t = Unit {0}
MorePlain (integer n) t = NoDigit t
MorePlain (string b) t = Stops t

abbrev pub MoreAssigned : Assigned → List ℕ → Type 0
MoreAssigned (plain v) t = MorePlain v t
MoreAssigned empty_map t = Unit {0}
MoreAssigned empty_list t = Unit {0}

abbrev pub plains : Layout Plain
plains = record { Valid = ValidPlain; text = plain_text; More = MorePlain }

abbrev pub assigned : Layout Assigned
assigned = record { Valid = ValidAssigned; text = assigned_text; More = MoreAssigned }

-- What the readers answer.

-- the place behind a fixed text
abbrev pub ReadsText : List ℕ → List ℕ → ℕ → Option ℕ → Type 0
ReadsText p s a (Some n) = Took (fixed p) s a tt n
ReadsText p s a None = Never (fixed p) s a

abbrev pub ReadsId : List ℕ → ℕ → Option (ℕ × ℕ) → Type 0
ReadsId = Reads ids

-- what the code holds of a thing, and the place behind it
abbrev pub ReadsAs : {X Y : Type 0} → (Y → X) → Layout X → List ℕ → ℕ → Option (Y × ℕ) → Type 0
ReadsAs says L s a (Some (y, n)) = Took L s a (says y) n
ReadsAs says L s a None = Never L s a

abbrev pub ReadsCounters : List ℕ → ℕ → Option (Counters × ℕ) → Type 0
ReadsCounters = ReadsAs (λ c. c.at) counters

-- an integer from 0 on, or -(m + 1)
abbrev pub integer_of : Integer → ℤ
integer_of (Z.NonNeg n) = pos n
integer_of (Z.Neg n) = negsuc n

abbrev pub ReadsInteger : List ℕ → ℕ → Option (Integer × ℕ) → Type 0
ReadsInteger = ReadsAs integer_of integers
