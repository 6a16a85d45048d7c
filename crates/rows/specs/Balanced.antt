-- What the count of answer 10 rests on (proofs/Balanced): what clearing and passing over rows leaves.
-- Assumes nothing.
use Rattle.std.specs.Prelude.{ℕ, ◌≤◌, ◌≡◌, refl, Bool, true, false, cond, length}
use Rattle.std.proofs.Common.{arith, sym, ap, ◌∙◌}
use Rattle.std.proofs.Math.Path.{subst}
use mathlib.Core.List.{List, [], ◌∷◌, ◌++◌, map, append_assoc}
use Rattle.meaning.specs.Ids.{uncovered}
use Rattle.meaning.specs.Clear.{clear_marks, clear_values}
use Rattle.meaning.specs.Members.{Has, own, id_of_value}
use Rattle.meaning.specs.Load.{marks_in, values_in}
use Rattle.meaning.specs.Sheet.{Row}
use Rattle.theorems.specs.Members.{keep_length, has_keep}
use Rattle.rows.specs.Blocks.{passed, rest, clear_row}
use Rattle.rows.specs.Counting.{gone_marks, gone_values, clears, Balance, Fresh}

pub clear_marks_length : (d ms : List ℕ) → length (clear_marks d ms) ≤ length ms
unfolding clear_marks
clear_marks_length d ms = keep_length (λ i. uncovered d i) ms

pub fresh_clear : (d ms : List ℕ) (i : ℕ) → (Has own i ms → ⊥) → Has own i (clear_marks d ms) → ⊥
unfolding clear_marks
fresh_clear d ms i n h = n (has_keep own (λ i. uncovered d i) i ms h)

pub clear_values-length : (d : List ℕ) (r : Row) → length (clear_values d r.values) ≤ length r.values
unfolding clear_values
clear_values-length d r = keep_length (λ v. uncovered d v.id) r.values

pub fresh_clear_values : (d : List ℕ) (r : Row) (i : ℕ) → (Has id_of_value i r.values → ⊥)
    → Has id_of_value i (clear_values d r.values) → ⊥
unfolding clear_values
fresh_clear_values d r i n h = n (has_keep id_of_value (λ v. uncovered d v.id) i r.values h)

pub passed-rest : (p : Row → Bool) (rs : List Row) → passed p rs ++ rest p rs ≡ rs
unfolding passed rest
passed-rest p [] = refl
passed-rest p (r ∷ rs) = go (p r) (passed-rest p rs)
  where
    go : (b : Bool) → passed p rs ++ rest p rs ≡ rs → cond b (r ∷ passed p rs) [] ++ cond b (rest p rs) (r ∷ rs) ≡ r ∷ rs
    go true h = ap (r ∷◌) h
    go false h = refl

-- the same, behind other rows
pub passed-rest-behind : (xs : List Row) (p : Row → Bool) (rs : List Row) → xs ++ rs ≡ (xs ++ passed p rs) ++ rest p rs
passed-rest-behind xs p rs = ap (xs ++◌) (sym (passed-rest p rs)) ∙ sym (append_assoc xs (passed p rs) (rest p rs))

pub fresh_append : (i : ℕ) (xs ys : List Row) → Fresh i (xs ++ ys) → Fresh i xs × Fresh i ys
fresh_append i [] ys h = (tt, h)
fresh_append i (x ∷ xs) ys h = let t = fresh_append i xs ys h.2 in ((h.0, h.1, t.0), t.1)

pub fresh_parts : (i : ℕ) (p : Row → Bool) (rs : List Row) → Fresh i rs → Fresh i (passed p rs) × Fresh i (rest p rs)
fresh_parts i p rs h = fresh_append i (passed p rs) (rest p rs) (subst (Fresh i) (sym (passed-rest p rs)) h)

pub clears_rows : (d : List ℕ) (rs : List Row) → Balance rs (map (clear_row d) rs) (clears d rs)
unfolding marks_in values_in gone_marks gone_values
clears_rows d [] = record { places = refl; marks = refl; values = refl }
clears_rows d (r ∷ rs) =
    let h = clears_rows d rs in
    record {
      places = omega (arith, h.places);
      marks = omega (arith, h.marks, clear_marks_length d r.marks);
      values = omega (arith, h.values, clear_values-length d r);
    }
