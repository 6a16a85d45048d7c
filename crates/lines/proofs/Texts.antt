-- The lines of document 01 as they are written, piece by piece.
-- Assumes nothing.
use Prim.Native.Nat.{ℕ}
use mathlib.Core.Path.{◌≡◌, refl, sym}
use mathlib.Core.Bool.{Bool}
use mathlib.Core.List.{List, ◌∷◌, ◌++◌, append_assoc}
use Rattle.meaning.specs.Ascii.{ascii}
use Rattle.meaning.specs.Places.{Value}
use Rattle.meaning.specs.Ways.{Operation}
use Rattle.meaning.specs.Text.{decimal, id_text, counters_text, hex, plain_text}
use Rattle.meaning.specs.Message.{edit_text, message}
use Rattle.meaning.specs.Sheet.{Spot, flags_text, spot_text, sheet_line, seen_line, place_line, mark_line, value_line, end_line, line_text}
use Rattle.meaning.specs.Read.{values_text}
use Rattle.lines.specs.Rows.{key_row, id_row, value_row, message_head}

pub key_text_lem : (k : List ℕ) → key_row k ≡ hex k ++ ascii "\n"
unfolding key_row
key_text_lem k = refl

pub row_text_lem : (i : ℕ) → id_row i ≡ id_text i ++ ascii "\n"
unfolding id_row
row_text_lem i = refl

-- a value's line, without the name before it
pub value_text_lem : (v : Value) → value_row v ≡ id_text v.id ++ (ascii ":" ++ (plain_text v.val ++ ascii "\n"))
unfolding value_row
value_text_lem v = refl

-- a message's first lines
pub head_text : (i : ℕ) (deps : List ℕ)
    → message_head i deps ≡ ascii "op=1\nid=" ++ (id_text i ++ (ascii "\ndeps=" ++ (counters_text deps ++ ascii "\n")))
unfolding message_head
head_text i deps = refl

-- the line of the counters that were seen
pub seen_text : (s : List ℕ) → line_text (seen_line s) ≡ ascii "seen=" ++ (counters_text s ++ ascii "\n")
unfolding line_text
seen_text s = refl

-- a mark's line
pub mark_text_lem : (i : ℕ) → line_text (mark_line i) ≡ ascii "mark=" ++ (id_text i ++ ascii "\n")
unfolding line_text
mark_text_lem i = refl

pub value_line_text : (v : Value) → line_text (value_line v) ≡ ascii "value=" ++ value_row v
unfolding line_text value_row
value_line_text v = refl

-- the line at a sheet's end
pub end_text : (n : ℕ) → line_text (end_line n) ≡ ascii "end=" ++ (decimal n ++ ascii "\n")
unfolding line_text
end_text n = refl

-- a message is its head and the edit's lines
pub message_text : (o : Operation) → message o ≡ message_head o.id o.deps ++ edit_text o.top o.way
unfolding message message_head
message_text o = simp append_assoc

-- a place's line
pub place_text_lem : (n : ℕ) (p : Spot) (m l : Bool)
    → line_text (place_line n p m l) ≡ ascii "place=" ++ (decimal n ++ (spot_text p (flags_text m l) ++ ascii "\n"))
unfolding line_text
place_text_lem n p m l = refl

-- What is written one behind the other: the sheet's first line, and what a read tells.

-- the sheet's first line
pub sheet_text_lem : line_text sheet_line ≡ ascii "sheet=1\n"
unfolding line_text
sheet_text_lem = refl

-- one key more
pub keys_more : (k t : List ℕ) → hex k ++ (ascii "\n" ++ t) ≡ key_row k ++ t
unfolding key_row
keys_more k t = sym (append_assoc (hex k) (ascii "\n") t)

pub values_more : (v : Value) (vs : List Value) → values_text (v ∷ vs) ≡ value_row v ++ values_text vs
unfolding values_text value_row
values_more v vs = simp append_assoc
