-- Document 01, "Reads", last sentence: a key, a value and an element id as they are read, each with an LF behind it; and a message's lines
-- ahead of `at=`.
-- Assumes nothing: these are definitions.
use Rattle.std.specs.Prelude.{ℕ, List, ◌++◌}
use Rattle.meaning.specs.Ascii.{ascii}
use Rattle.meaning.specs.Places.{Value}
use Rattle.meaning.specs.Text.{id_text, counters_text, hex, plain_text}
use Rattle.writers.specs.Held.{plain_in}

-- a value of a place, as the tables hold it: its id, the number of its kind, and four words
abbrev pub value_of : ℕ → ℕ → List ℕ → Value
value_of id kind words = record { id = id; val = plain_in kind words }

unfoldable pub key_row : List ℕ → List ℕ
key_row k = hex k ++ ascii "\n"

unfoldable pub id_row : ℕ → List ℕ
id_row i = id_text i ++ ascii "\n"

unfoldable pub value_row : Value → List ℕ
value_row v = id_text v.id ++ (ascii ":" ++ (plain_text v.val ++ ascii "\n"))

-- a message is this and the edit's lines
unfoldable pub message_head : ℕ → List ℕ → List ℕ
message_head i deps = ascii "op=1\nid=" ++ (id_text i ++ (ascii "\ndeps=" ++ (counters_text deps ++ ascii "\n")))
