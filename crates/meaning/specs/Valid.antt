-- Document 01, "Ids", "Places" and "Messages": which ids, counters, keys, values, ways and operations there are. What is outside is not in
-- the layout.
-- Assumes nothing: these are definitions.
use Rattle.std.specs.Prelude.{ℕ, ◌≤◌, ◌<◌, ◌≡◌, List, [], ◌∷◌, pos, negsuc, length}
use Rattle.meaning.specs.Ids.{counter_of, entry}
use Rattle.meaning.specs.Places.{Plain, null, bool, integer, string}
use Rattle.meaning.specs.Ways.{Assigned, plain, empty_map, empty_list, Prev, head, after}
use Rattle.meaning.specs.Ways.{Way, assign, delete, insert, into_map, into_list, Operation, steps}

-- counter from 1 to 4294967295 (terminals are 1 to 8 by how an id is a number)
pub record ValidId (i : ℕ) : Type 0 where
  pub low : 1 ≤ counter_of i
  pub high : counter_of i ≤ 4294967295

-- eight counters, each 0 to 4294967295
pub record ValidCounters (s : List ℕ) : Type 0 where
  pub eight : length s ≡ 8
  pub each : (n : ℕ) → entry s n ≤ 4294967295

abbrev pub Bytes : List ℕ → Type 0
Bytes [] = Unit {0}
Bytes (b ∷ bs) = (b < 256) × Bytes bs

-- a text of at most n bytes, any bytes
pub record ValidText (n : ℕ) (t : List ℕ) : Type 0 where
  pub short : length t ≤ n
  pub bytes : Bytes t

-- a key: 0 to 16 bytes
abbrev pub ValidKey : List ℕ → Type 0
ValidKey = ValidText 16

-- a string: 0 to 32 bytes
abbrev pub ValidString : List ℕ → Type 0
ValidString = ValidText 32

-- integers from -9223372036854775808 to 9223372036854775807
abbrev pub ValidPlain : Plain → Type 0
ValidPlain null = Unit {0}
ValidPlain (bool b) = Unit {0}
ValidPlain (integer (pos n)) = n ≤ 9223372036854775807
ValidPlain (integer (negsuc n)) = n ≤ 9223372036854775807
ValidPlain (string b) = ValidString b

-- a value as a place holds it: what is assigned and what is stored are told apart, though today the same values serve both
abbrev pub ValidStored : Plain → Type 0
ValidStored = ValidPlain

abbrev pub ValidAssigned : Assigned → Type 0
ValidAssigned (plain v) = ValidPlain v
ValidAssigned empty_map = Unit {0}
ValidAssigned empty_list = Unit {0}

abbrev pub ValidPrev : Prev → Type 0
ValidPrev head = Unit {0}
ValidPrev (after e) = ValidId e

abbrev pub ValidWay : Way → Type 0
ValidWay (assign a) = ValidAssigned a
ValidWay delete = Unit {0}
ValidWay (insert p a) = ValidPrev p × ValidAssigned a
ValidWay (into_map k w) = ValidKey k × ValidWay w
ValidWay (into_list e w) = ValidId e × ValidWay w

-- a way and its action, as a local edit gives them: one to eight keys
pub record ValidEdit (top : List ℕ) (w : Way) : Type 0 where
  pub first : ValidKey top
  pub rest : ValidWay w
  pub reach : steps w ≤ 7

pub record ValidOperation (o : Operation) : Type 0 where
  pub id : ValidId o.id
  pub deps : ValidCounters o.deps
  pub edit : ValidEdit o.top o.way
