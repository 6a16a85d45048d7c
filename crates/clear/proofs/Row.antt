-- What `clear_row` leaves, whatever the tables hold: a row that says more words than there are is gone over, any other cleared
-- (proofs/Steps).
-- Assumes nothing.
use Prim.Native.Nat.{ℕ, ◌+◌, ◌*◌, ◌-◌, ◌/◌, ◌≤◌, ◌<◌}
use native.Mathlib.Omega.{arith}
use mathlib.Core.Path.{◌≡◌, refl, ap, subst, ◌∙◌}
use mathlib.Core.List.{List, [], ◌∷◌, ◌++◌}
use lib.ListN.{length, drop, get_or, set}
use Rattle.meaning.specs.Ids.{uncovered}
use Rattle.meaning.specs.Sets.{keep}
use Rattle.meaning.specs.Clear.{clear_marks, clear_values}
use Rattle.meaning.specs.Sheet.{Row}
use Rattle.rows.specs.Blocks.{clear_row}
use Rattle.words.specs.Words.{run}
use Rattle.words.specs.Rows.{keep_rows, Kept}
use Rattle.tables.specs.Words.{marks_at, values_at, each_value}
use Rattle.tables.specs.Heads.{with_counts}
use Rattle.tables.specs.Finds.{marks_in_lem, values_in_lem}
use Rattle.tables.specs.declared.Counts.{Counts}
use Rattle.clear.specs.declared.Cursor.{Cursor}
use Rattle.clear.specs.WithGap.{WithGap}
use Rattle.clear.specs.Clear.{passing, In, ClearsRow}
use Rattle.clear.proofs.Steps.{head_here, narrow_here, marks_room_lem, values-room, marks_kept, values_kept, row_cleared}

-- n marks and k values of the row were looked at
module _ (d h m v : List ℕ) (p : Cursor) (S : In (passing h m v p)) (n k : ℕ)
    (a : n ≡ marks_at (get_or h p.row 0)) (b : k ≡ values_at (get_or h p.row 0)) where
  module _ (c : Counts) (A us : List Row) (r : Row) (G : WithGap c h m v p A (r ∷ us)) where
    marks_looked : n ≡ length r.marks
    marks_looked = a ∙ (ap marks_at (head_here c h m v p A us r G) ∙ marks_in_lem r (narrow_here c h m v p A us r G))

    values_looked : k ≡ length r.values
    values_looked = b ∙ (ap values_at (head_here c h m v p A us r G) ∙ values_in_lem r (narrow_here c h m v p A us r G))

  abbrev onward : Cursor
  onward = record { row = p.row + 1; mark = p.mark; marked = p.marked; value = p.value; valued = p.valued }

  onward_in : In (passing h m v onward)
  onward_in = record {
    marks_low = S.marks_low;
    marks_high = S.marks_high;
    values_low = S.values_low;
    values_high = S.values_high;
  }

  -- the row says more marks, or more values, than there can be: no tables hold such rows
  pub short_marks : length m - p.mark < n → ClearsRow d (passing h m v p) (passing h m v onward)
  short_marks l = record {
    next = refl;
    within = onward_in;
    clears = λ c A us r G. absurd (omega (arith, marks_looked c A us r G, marks_room_lem c h m v p A us r G, S.marks_high));
  }

  pub short-values : length v - p.value < k * 6 → ClearsRow d (passing h m v p) (passing h m v onward)
  short-values l = record {
    next = refl;
    within = onward_in;
    clears = λ c A us r G. absurd (omega (arith, values_looked c A us r G, values-room c h m v p A us r G, S.values_high));
  }

  abbrev beyond : ℕ → ℕ → Cursor
  beyond to end = record { row = p.row + 1; mark = p.mark + n; marked = to; value = p.value + k * 6; valued = end }

  pub row_done : (to end w : ℕ) (m' v' : List ℕ) → p.mark + n ≤ length m → p.value + k * 6 ≤ length v
      → Kept p.marked n (keep (uncovered d) (run p.mark n m)) m to m'
      → Kept p.valued (k * 6) (keep_rows 6 (uncovered d) k (drop p.value v)) v end v' → length m' ≡ length m → length v' ≡ length v
      → w ≡ with_counts (get_or h p.row 0) (to - p.marked) ((end - p.valued) / 6)
      → ClearsRow d (passing h m v p) (passing (set h p.row w) m' v' (beyond to end))
  row_done to end w m' v' e f K L s t W = record {
    next = refl;
    within = record {
      marks_low = omega (arith, K.high, S.marks_low);
      marks_high = omega arith;
      values_low = omega (arith, L.high, S.values_low);
      values_high = omega arith;
    };
    clears = go;
  }
    where
      go : (c : Counts) (A us : List Row) (r : Row) → WithGap c h m v p A (r ∷ us)
          → WithGap c (set h p.row w) m' v' (beyond to end) (A ++ clear_row d r ∷ []) us
      go c A us r G =
          let x = marks_looked c A us r G in
          let y = values_looked c A us r G in
          let P : Kept p.marked (length r.marks) (clear_marks d r.marks) m to m' =
          subst (λ l. Kept p.marked (length r.marks) l m to m') (marks_kept c h m v p A us r G d)
          (subst (λ n. Kept p.marked n (keep (uncovered d) (run p.mark n m)) m to m') x K) in
          let Q : Kept p.valued (length r.values * 6) (each_value (clear_values d r.values)) v end v' =
          subst (λ l. Kept p.valued (length r.values * 6) l v end v') (values_kept c h m v p A us r G d)
          (subst (λ k. Kept p.valued (k * 6) (keep_rows 6 (uncovered d) k (drop p.value v)) v end v') y L) in
          row_cleared c h m v p A us r G d to end m' v' P Q w _ W (rw (x, y))
