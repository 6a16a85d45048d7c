-- What the words of a row say: its head, its key, its values; and a head's word written anew. The crates above speak of `Head`, `Key` and
-- `Value`, and write heads by these functions only. What they write in tables that hold rows says specs/Rewritten.
-- Assumes nothing: these are definitions.
use Rattle.std.specs.Prelude.{ℕ, ◌+◌, ◌*◌, ◌-◌, ◌%◌, ◌≡◌, cond, List, [], ◌∷◌, eqb, get_or}
use Rattle.std.proofs.Common.{ap}
use Rattle.readers.specs.declared.Key.{Key}
use Rattle.tables.specs.Words.{side_number, depth_in, side_in, map_in, list_in, marks_at, values_at}
use Rattle.tables.specs.declared.Head.{Head}
use Rattle.tables.specs.declared.Side.{Side}
use Rattle.tables.specs.declared.Side.TheVariants as S
use Rattle.tables.specs.declared.Value.{Value}

-- the side of a number in a head's word
abbrev pub side_of : ℕ → Side
side_of n = cond (eqb n 0) S.Map S.List

abbrev pub head_in : ℕ → Head
head_in h = record {
  depth = depth_in h;
  side = side_of (side_in h);
  map = eqb (map_in h) 1;
  list = eqb (list_in h) 1;
  marks = marks_at h;
  values = values_at h;
}

-- equal heads say the same
module _ {g h : Head} (e : g ≡ h) where
  pub depth_said : g.depth ≡ h.depth
  depth_said = ap (λ (h : Head). h.depth) e

  pub marks_said : g.marks ≡ h.marks
  marks_said = ap (λ (h : Head). h.marks) e

  pub values-said : g.values ≡ h.values
  values-said = ap (λ (h : Head). h.values) e

-- the word of a row of this depth and side, without flags, marks and values
abbrev pub new_head : ℕ → Side → ℕ
new_head depth side = depth + 16 * side_number side

-- the word with the flag of the list, or of the map, whether it had it or not
abbrev pub with_flag : Side → ℕ → ℕ
with_flag S.List h = h + 64 * (1 - list_in h)
with_flag S.Map h = h + 32 * (1 - map_in h)

-- the word with a mark more
abbrev pub with_mark : ℕ → ℕ
with_mark h = h + 128

-- the word with so many marks and values, whatever it had
abbrev pub with_counts : ℕ → ℕ → ℕ → ℕ
with_counts h marks values = h % 128 + 128 * marks + 262144 * values

-- the key that words begin with
abbrev pub key_in : List ℕ → Key
key_in ks = record { hi = get_or ks 0 0; lo = get_or ks 1 0; len = get_or ks 2 0 }

-- the key of row n
abbrev pub key_at : List ℕ → ℕ → Key
key_at keys n = record { hi = get_or keys (3 * n) 0; lo = get_or keys (3 * n + 1) 0; len = get_or keys (3 * n + 2) 0 }

-- value n of the table
abbrev pub value_at : List ℕ → ℕ → Value
value_at values n = record {
  id = get_or values (6 * n) 0;
  kind = get_or values (6 * n + 1) 0;
  words = get_or values (6 * n + 2) 0 ∷ get_or values (6 * n + 3) 0 ∷ get_or values (6 * n + 4) 0 ∷ get_or values (6 * n + 5) 0 ∷ [];
}
