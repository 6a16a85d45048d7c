-- A search among the rows under a place: what it does with the block where it stops.
-- Assumes nothing.
use Rattle.std.specs.Prelude.{ℕ, suc, ◌≡◌, Bool, true, false}
use Rattle.std.proofs.Math.Path.{refl}
use Rattle.std.proofs.Common.{ap, ◌∙◌}
use mathlib.Core.List.{List, [], ◌∷◌, ◌++◌, append_assoc, append-nil}
use Rattle.meaning.specs.Places.{Place}
use Rattle.meaning.specs.Places.{Children}
use Rattle.meaning.specs.Sheet.{Spot, in_map, Row, row_of, rows, rows_children}
use Rattle.rows.specs.Blocks.{passed, rest, Block, join}
use Rattle.rows.specs.Blocks.{over}
use Rattle.rows.specs.Blocks.{on_block, change_here, seek_rows}
use Rattle.rows.specs.Spans.{Splits, split_none, at_row, block_pass, block_stop, Shallow, under_split}
use Rattle.rows.specs.Spans.{map_pass}

abbrev pub block_of : ℕ → Spot → Place → Block
block_of n p c = record { own = row_of n p c; under = rows (suc n) c }

-- what f does to a place, g does to its block
abbrev pub Simulates : ℕ → (Place → Place) → (Block → Block) → Type 0
Simulates n f g = (p : Spot) (c : Place) → g (block_of n p c) ≡ block_of n p (f c)

-- The laws of a search.

module _ (n : ℕ) (pass meant : Spot → Bool) (g : Block → Block) (new : List Row) where
  pub seek_split : (rs a b : List Row) → Splits (over n pass) rs a b → seek_rows n pass meant g new rs ≡ a ++ change_here n meant g new b
  unfolding seek_rows
  seek_split rs a b s = rw (s.front, s.back)

  pub seek_none : seek_rows n pass meant g new [] ≡ new
  unfolding change_here
  seek_none = seek_split [] [] [] (split_none (over n pass))

  -- a block that is passed over
  pub seek_pass : (p : Spot) (c : Place) (rs : List Row) → pass p ≡ true
      → seek_rows n pass meant g new (row_of n p c ∷ (rows (suc n) c ++ rs))
      ≡ row_of n p c ∷ (rows (suc n) c ++ seek_rows n pass meant g new rs)
  unfolding seek_rows
  seek_pass p c rs e =
      let s = block_pass n pass p c rs (passed (over n pass) rs) (rest (over n pass) rs) e (record { front = refl; back = refl }) in
      rw (s.front, s.back) (ap (row_of n p c ∷◌) (append_assoc (rows (suc n) c) _ _))

  -- one that is meant
  pub seek-meant : (p : Spot) (c : Place) (rs : List Row) → pass p ≡ false → meant p ≡ true → Shallow n rs
      → seek_rows n pass meant g new (row_of n p c ∷ (rows (suc n) c ++ rs)) ≡ join (g (block_of n p c)) ++ rs
  unfolding change_here on_block
  seek-meant p c rs e f h =
      let u = under_split n c rs h in
      seek_split _ _ _ (block_stop n pass p c (rows (suc n) c ++ rs) e)
      ∙ rw (at_row n meant p c, f, u.front, u.back, append-nil (rows (suc n) c))

  -- the whole map, if every key is passed over
  pub seek-map : ((k : List ℕ) → pass (in_map k) ≡ true) → (ks : Children) (rs : List Row)
      → seek_rows n pass meant g new (rows_children n ks ++ rs) ≡ rows_children n ks ++ seek_rows n pass meant g new rs
  unfolding seek_rows
  seek-map h ks rs =
      let s = map_pass n pass h ks rs (passed (over n pass) rs) (rest (over n pass) rs) (record { front = refl; back = refl }) in
      rw (s.front, s.back) (append_assoc (rows_children n ks) _ _)

  -- one that is neither
  pub seek_stop : (p : Spot) (c : Place) (rs : List Row) → pass p ≡ false → meant p ≡ false
      → seek_rows n pass meant g new (row_of n p c ∷ rs) ≡ new ++ (row_of n p c ∷ rs)
  unfolding change_here
  seek_stop p c rs e f = seek_split _ _ _ (block_stop n pass p c rs e) ∙ rw (at_row n meant p c, f)
