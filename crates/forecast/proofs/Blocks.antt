-- The place behind a row, its depth, and what goes of a block.
-- Assumes nothing.
use Prim.Native.Nat.{ℕ}
use native.Mathlib.Omega.{arith}
use mathlib.Core.Path.{◌≡◌, refl, sym, ap, ◌∙◌, subst}
use mathlib.Core.List.{List, [], ◌∷◌, ◌++◌, append_assoc}
use lib.ListN.{get_or}
use Rattle.meaning.specs.Sheet.{Row}
use Rattle.rows.specs.Blocks.{passed, deeper}
use Rattle.tables.specs.Words.{depth_in}
use Rattle.tables.specs.Seek.{Passes}
use Rattle.tables.specs.Standing.{behind}
use Rattle.tables.specs.Holding.{Holds, four}
use Rattle.tables.specs.Parts.{at-behind}
use Rattle.tables.specs.Stands.{passes}
use Rattle.tables.specs.declared.Counts.{Counts}
use Rattle.tables.specs.declared.Position.{Position}
use Rattle.forecast.specs.declared.Lost.{Lost}
use Rattle.forecast.specs.Goes.{together, Goes, RowGone, UnderGone, BlockGone, RowDeep}
use Rattle.forecast.proofs.Here.{here}
use Rattle.forecast.proofs.Goes.{more_marks, more_values}

pub deep_is : (heads : List ℕ) (row : ℕ) → RowDeep heads row (depth_in (get_or heads row 0))
deep_is heads row keys marks values c A r R h e =
    ap (λ n. depth_in (get_or heads n 0)) (e ∙ sym (at-behind (behind A) A refl).row) ∙ (here _ c (behind A) A r R h refl).depth

pub block_gone : (heads marks values : List ℕ) (rows : ℕ) (s next : Position) (n : ℕ) (d : List ℕ) (g u : Lost)
    → RowGone heads marks values s d g → Passes heads s next → RowDeep heads s.row n → UnderGone heads marks values rows next n d u
    → BlockGone heads marks values rows s d (together g u)
block_gone heads marks values rows s next n d g u W P D U = record {
  few_marks = omega (arith, W.few_marks, U.few_marks);
  few_values = omega (arith, W.few_values, U.few_values);
  is = λ keys c A r R q h e. go keys c A r R q h e;
}
  where
    go : (keys : List ℕ) (c : Counts) (A : List Row) (r : Row) (R : List Row) → rows ≡ c.rows
        → Holds (four heads keys marks values) c (A ++ r ∷ R) → s ≡ behind A
        → Goes d (r ∷ passed (deeper r.depth) R) (together g u)
    go keys c A r R q h e =
        let a = W.is keys c A r R h e in
        let k : n ≡ r.depth = D keys marks values c A r R h (at-behind s A e).row in
        let t = subst (Holds (four heads keys marks values) c) (sym (append_assoc A (r ∷ []) R)) h in
        let p : next ≡ behind (A ++ r ∷ []) = passes heads keys marks values c A R r h s next P e in
        let b = subst (λ n. Goes d (passed (deeper n) R) u) k (U.is keys c (A ++ r ∷ []) R q t p) in
        let L = passed (deeper r.depth) R in
        record {
          marks = omega (arith, a.marks, b.marks, more_marks d r L);
          values = omega (arith, a.values, b.values, more_values d r L);
        }
