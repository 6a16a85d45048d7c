-- Rows on which a search has stopped; and an insert, by the searches that find its seat.
-- Assumes nothing.
use Rattle.std.specs.Prelude.{ℕ, ◌≡◌, Bool, eqb}
use Rattle.std.proofs.Math.Path.{refl, ap, ap₂}
use Rattle.std.proofs.Common.{sym, ◌∙◌}
use Rattle.std.proofs.Math.Bool.{true, false, cond, not, and-false}
use mathlib.Core.List.{List, [], ◌∷◌, ◌++◌, append_assoc, append-nil}
use Rattle.meaning.specs.Ways.{after}
use Rattle.meaning.specs.Sheet.{Spot, Row}
use Rattle.theorems.specs.Decide.{or_left}
use Rattle.rows.specs.Blocks.{passed, rest, Block, deeper, is_id, is_greater, over, at}
use Rattle.rows.specs.Blocks.{change_here, seek_rows, step_on_rows, behind_rows, insert_rows}
use Rattle.rows.specs.Balanced.{passed-rest}
use Rattle.tables.specs.Holding.{begins}

-- Where a search stopped there is no deeper row.
module _ (n : ℕ) (pass : Spot → Bool) where
  pub none_deeper : (rs : List Row) → passed (deeper n) (rest (over n pass) rs) ≡ []
  unfolding passed rest
  none_deeper [] = refl
  none_deeper (r ∷ rs) = go (over n pass r) refl (none_deeper rs)
    where
      go : (b : Bool) → over n pass r ≡ b → passed (deeper n) (rest (over n pass) rs) ≡ []
          → passed (deeper n) (cond b (rest (over n pass) rs) (r ∷ rs)) ≡ []
      go true e h = h
      go false e h = rw (or_left (deeper n r) _ e)

  pub all_there : (rs : List Row) → rest (deeper n) (rest (over n pass) rs) ≡ rest (over n pass) rs
  unfolding rest
  all_there [] = refl
  all_there (r ∷ rs) = go (over n pass r) refl (all_there rs)
    where
      go : (b : Bool) → over n pass r ≡ b → rest (deeper n) (rest (over n pass) rs) ≡ rest (over n pass) rs
          → rest (deeper n) (cond b (rest (over n pass) rs) (r ∷ rs)) ≡ cond b (rest (over n pass) rs) (r ∷ rs)
      go true e h = h
      go false e h = rw (or_left (deeper n r) _ e)

  -- deeper rows at the start are passed over
  pub over-deeper : (rs : List Row) → passed (deeper n) rs ++ passed (over n pass) (rest (deeper n) rs) ≡ passed (over n pass) rs
  unfolding passed rest
  over-deeper [] = refl
  over-deeper (r ∷ rs) = go (deeper n r) refl (over-deeper rs)
    where
      go : (b : Bool) → deeper n r ≡ b → passed (deeper n) rs ++ passed (over n pass) (rest (deeper n) rs) ≡ passed (over n pass) rs
          → cond b (r ∷ passed (deeper n) rs) [] ++ passed (over n pass) (cond b (rest (deeper n) rs) (r ∷ rs))
          ≡ passed (over n pass) (r ∷ rs)
      go true e h = rw (e, passed) (ap (r ∷◌) h)
      go false e h = refl

  pub over-rest : (rs : List Row) → rest (over n pass) (rest (deeper n) rs) ≡ rest (over n pass) rs
  unfolding rest
  over-rest [] = refl
  over-rest (r ∷ rs) = go (deeper n r) refl (over-rest rs)
    where
      go : (b : Bool) → deeper n r ≡ b → rest (over n pass) (rest (deeper n) rs) ≡ rest (over n pass) rs
          → rest (over n pass) (cond b (rest (deeper n) rs) (r ∷ rs)) ≡ rest (over n pass) (r ∷ rs)
      go true e h = rw (e, rest) h
      go false e h = refl

-- where the row that is meant doesn't stand, the new rows come
pub here_none : (n : ℕ) (meant : Spot → Bool) (f : Block → Block) (new X : List Row) → begins n meant X ≡ false
    → change_here n meant f new X ≡ new ++ X
unfolding change_here
here_none n meant f new [] e = sym (append-nil new)
here_none n meant f new (r ∷ X) e = rw e

-- Inserting.

never : (n : ℕ) (X : List Row) → begins n (λ p. false) X ≡ false
never n [] = refl
never n (r ∷ X) = and-false (eqb r.depth n)

pub step_on_lem : (n : ℕ) (pass : Spot → Bool) (new rs : List Row)
    → step_on_rows n pass new rs ≡ passed (over n pass) rs ++ (new ++ rest (over n pass) rs)
unfolding step_on_rows seek_rows
step_on_lem n pass new rs =
    let X = rest (over n pass) rs in
    ap (passed (over n pass) rs ++◌) (here_none n (λ p. false) (λ b. b) new X (never n X))

module _ (n i e : ℕ) (new rs : List Row) where
  -- behind the predecessor, and on over what is greater
  pub insert_after_lem : (r : Row) (R : List Row) → rest (over n (λ p. not (is_id e p))) rs ≡ r ∷ R → at n (is_id e) r ≡ true
      → insert_rows n (after e) i new rs
      ≡ passed (over n (λ p. not (is_id e p))) rs ++ (r ∷ (passed (over n (is_greater i)) R ++ (new ++ rest (over n (is_greater i)) R)))
  unfolding insert_rows behind_rows
  insert_after_lem r R q t =
      rw (q, t) (ap (λ l. passed (over n (λ p. not (is_id e p))) rs ++ (r ∷ l))
      (ap (passed (deeper n) R ++◌) (step_on_lem n (is_greater i) new (rest (deeper n) R))
      ∙ (sym (append_assoc (passed (deeper n) R) _ _)
      ∙ ap₂ (λ a b. a ++ (new ++ b)) (over-deeper n (is_greater i) R) (over-rest n (is_greater i) R))))

  -- no such predecessor
  pub insert_nowhere : begins n (is_id e) (rest (over n (λ p. not (is_id e p))) rs) ≡ false → insert_rows n (after e) i new rs ≡ rs
  unfolding insert_rows behind_rows
  insert_nowhere b =
      ap (passed (over n (λ p. not (is_id e p))) rs ++◌) (go (rest (over n (λ p. not (is_id e p))) rs) b)
      ∙ passed-rest (over n (λ p. not (is_id e p))) rs
    where
      go : (X : List Row) → begins n (is_id e) X ≡ false → behind_rows n e i new X ≡ X
      go [] b = refl
      go (r ∷ X) b = rw b
