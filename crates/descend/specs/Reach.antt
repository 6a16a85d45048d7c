-- Where a search among rows leads: to a row that is there, or that is made; or nowhere. What is then done to the row's block is done to the
-- rows: `leads`. Laws: which of these a search comes to.
-- Assumes nothing.
use Rattle.std.specs.Prelude.{ℕ, ◌≡◌, refl, Bool, false}
use Rattle.std.proofs.Math.Path.{ap}
use Rattle.std.proofs.Common.{◌∙◌}
use Rattle.std.proofs.Math.Bool.{true}
use mathlib.Core.List.{List, [], ◌∷◌, ◌++◌}
use borrow.Author.Tests.{eqb-true}
use Rattle.meaning.specs.Sheet.{Spot, Row}
use Rattle.theorems.specs.Decide.{and_left}
use Rattle.rows.specs.Blocks.{passed, rest, Block, join, new_row, deeper, over, at}
use Rattle.rows.specs.Blocks.{on_block, change_here, seek_rows, made}
use Rattle.rows.specs.Balanced.{passed-rest}
use Rattle.tables.specs.Holding.{begins}
use Rattle.seats.specs.Stops.{none_deeper, all_there, here_none}
use Rattle.act.specs.Acting.{block_at}

-- a row of depth n between P and R, such that changing its block is what `change` says
pub record Reached (n : ℕ) (change : (Block → Block) → List Row) (P : List Row) (r : Row) (R : List Row) : Type 0 where
  pub deep : r.depth ≡ n
  pub leads : (f : Block → Block) → change f ≡ P ++ (join (f (block_at n r R)) ++ rest (deeper n) R)

-- what a search is for: changing the block of the row that is meant, or of one that is made
abbrev pub changing : ℕ → (Spot → Bool) → (Spot → Bool) → Bool → Spot → List Row → (Block → Block) → List Row
changing n pass meant new p B f = seek_rows n pass meant f (made new n p f) B

module _ (n : ℕ) (pass meant : Spot → Bool) (p : Spot) (B : List Row) where
  -- the row is there
  pub reached_row : (new : Bool) (r : Row) (R : List Row) → rest (over n pass) B ≡ r ∷ R → at n meant r ≡ true
      → Reached n (changing n pass meant new p B) (passed (over n pass) B) r R
  unfolding seek_rows change_here on_block
  reached_row new r R e t = record {
    deep = eqb-true r.depth n (and_left _ _ t);
    leads = λ f. rw (e, t);
  }

  -- it is made
  pub reached_new : begins n meant (rest (over n pass) B) ≡ false
      → Reached n (changing n pass meant true p B) (passed (over n pass) B) (new_row n p) (rest (over n pass) B)
  unfolding seek_rows
  reached_new e = record {
    deep = refl;
    leads = λ f.
        ap (passed (over n pass) B ++◌) (here_none n meant f (made true n p f) (rest (over n pass) B) e
        ∙ rw (none_deeper n pass B, all_there n pass B));
  }

  -- neither
  pub reached_none : (f : Block → Block) → begins n meant (rest (over n pass) B) ≡ false → changing n pass meant false p B f ≡ B
  unfolding seek_rows
  reached_none f e =
      ap (passed (over n pass) B ++◌) (here_none n meant f [] (rest (over n pass) B) e) ∙ passed-rest (over n pass) B
