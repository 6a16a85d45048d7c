-- What goes, row by row: of the row at a place, and of the rows behind it that are deeper, one more a turn.
-- Assumes nothing.
use Prim.Native.Nat.{ℕ, ◌+◌, ◌*◌, ◌≤◌, ◌<◌}
use native.Mathlib.Omega.{arith}
use mathlib.Core.Path.{◌≡◌, refl, sym, ap, ◌∙◌, subst}
use mathlib.Core.List.{List, [], ◌∷◌, ◌++◌, append_assoc}
use borrow.Author.Tests.{lt-ltb, le-ltb}
use lib.ListN.{length, drop, get_or, length-append}
use Rattle.meaning.specs.Ids.{uncovered}
use Rattle.meaning.specs.Sets.{keep}
use Rattle.meaning.specs.Clear.{clear_marks, clear_values}
use Rattle.meaning.specs.Members.{id_of_value}
use Rattle.meaning.specs.Sheet.{Row}
use Rattle.rows.specs.Blocks.{passed, deeper}
use Rattle.rows.specs.Counting.{gone_marks, gone_values}
use Rattle.words.specs.Words.{run}
use Rattle.words.specs.Rows.{keep_rows, flat}
use Rattle.words.proofs.Flat.{flat_keep, flat_length}
use Rattle.tables.specs.Words.{value_words, depth_in, marks_at, values_at}
use Rattle.tables.specs.Heads.{head_in, depth_said, marks_said, values-said}
use Rattle.tables.specs.Seek.{further}
use Rattle.tables.specs.Standing.{behind}
use Rattle.tables.specs.Holding.{Holds, four}
use Rattle.tables.specs.Parts.{at-behind}
use Rattle.tables.specs.Values.{strides_value, each_flat}
use Rattle.tables.specs.Stands.{row_past}
use Rattle.tables.specs.declared.Counts.{Counts}
use Rattle.tables.specs.declared.Head.{Head}
use Rattle.tables.specs.declared.Position.{Position}
use Rattle.forecast.specs.declared.Lost.{Lost}
use Rattle.forecast.specs.Goes.{together, Goes, RowGone, UnderGone}
use Rattle.forecast.proofs.Here.{Here, here, Between, between}

abbrev pub nothing : Lost
nothing = record { marks = 0; values = 0 }

-- One row.

module _ (heads marks values : List ℕ) (s : Position) (d : List ℕ) where
  -- no tables that hold rows have a row at this place
  pub row_none : ((keys : List ℕ) (c : Counts) (r : Row) → Here (four heads keys marks values) c s r → ⊥)
      → RowGone heads marks values s d nothing
  row_none never = record {
    few_marks = omega arith;
    few_values = omega arith;
    is = λ keys c A r R h e. absurd (never keys c r (here _ c s A r R h e));
  }

  counted : (head : Head) (a b : ℕ) → head ≡ head_in (get_or heads s.row 0)
      → a + length (keep (uncovered d) (run s.mark head.marks marks)) ≡ head.marks
      → b * 6 + length (keep_rows 6 (uncovered d) head.values (drop (s.value * 6) values))
      ≡ head.values * 6
      → (keys : List ℕ) (c : Counts) (r : Row) → Here (four heads keys marks values) c s r
      → Goes d (r ∷ []) (record { marks = a; values = b })
  unfolding gone_marks gone_values clear_marks clear_values
  counted head a b e p q keys c r h =
      let vs = r.values in
      let p' : a + length (keep (uncovered d) r.marks) ≡ length r.marks =
      subst (λ l. a + length (keep (uncovered d) l) ≡ length r.marks) h.marks_run
      (subst (λ n. a + length (keep (uncovered d) (run s.mark n marks)) ≡ n) (marks_said e ∙ h.marks) p) in
      let k : keep_rows 6 (uncovered d) (length vs) (drop (s.value * 6) values)
      ≡ flat value_words (keep (λ v. uncovered d v.id) vs) =
      ap (keep_rows 6 (uncovered d) (length vs)) (h.values-drop ∙ ap (◌++ h.behind-values) (each_flat vs))
      ∙ flat_keep 6 value_words id_of_value strides_value (uncovered d) vs h.behind-values in
      let q' : b * 6 + length (keep_rows 6 (uncovered d) (length vs) (drop (s.value * 6) values)) ≡ length vs * 6 =
      subst (λ n. b * 6 + length (keep_rows 6 (uncovered d) n (drop (s.value * 6) values)) ≡ n * 6) (values-said e ∙ h.values) q in
      let l = ap length k ∙ flat_length 6 value_words id_of_value strides_value (keep (λ v. uncovered d v.id) vs) in
      record { marks = omega arith; values = omega arith }

  pub row_gone : (head : Head) (a b : ℕ) → head ≡ head_in (get_or heads s.row 0)
      → a + length (keep (uncovered d) (run s.mark head.marks marks)) ≡ head.marks
      → b * 6 + length (keep_rows 6 (uncovered d) head.values (drop (s.value * 6) values))
      ≡ head.values * 6
      → RowGone heads marks values s d (record { marks = a; values = b })
  row_gone head a b e p q = record {
    few_marks = omega (arith, marks_said e);
    few_values = omega (arith, values-said e);
    is = λ keys c A r R h f. counted head a b e p q keys c r (here _ c s A r R h f);
  }

-- Rows behind a place.

passed_yes : (n : ℕ) (r : Row) (rs : List Row) → n < r.depth → passed (deeper n) (r ∷ rs) ≡ r ∷ passed (deeper n) rs
unfolding passed
passed_yes n r rs h = rw (lt-ltb n r.depth h)

passed_no : (n : ℕ) (r : Row) (rs : List Row) → r.depth ≤ n → passed (deeper n) (r ∷ rs) ≡ []
unfolding passed
passed_no n r rs h = rw (le-ltb n r.depth h)

passed_nil : (n : ℕ) → passed (deeper n) [] ≡ []
unfolding passed
passed_nil n = refl

none_marks : (d : List ℕ) → gone_marks d [] ≡ 0
unfolding gone_marks
none_marks d = refl

none_values : (d : List ℕ) → gone_values d [] ≡ 0
unfolding gone_values
none_values d = refl

pub more_marks : (d : List ℕ) (r : Row) (rs : List Row) → gone_marks d (r ∷ rs) ≡ gone_marks d (r ∷ []) + gone_marks d rs
unfolding gone_marks
more_marks d r rs = omega arith

pub more_values : (d : List ℕ) (r : Row) (rs : List Row) → gone_values d (r ∷ rs) ≡ gone_values d (r ∷ []) + gone_values d rs
unfolding gone_values
more_values d r rs = omega arith

-- of the rows rs, B behind the place where it began, those before `back` have been counted
pub record Reached (d : List ℕ) (n : ℕ) (rs B : List Row) (at : Position) (sum : Lost) : Type 0 where
  pub front : List Row
  pub back : List Row
  pub all : rs ≡ front ++ back
  pub here : at ≡ behind front
  pub marks : sum.marks + gone_marks d (passed (deeper n) back) ≡ gone_marks d (passed (deeper n) B)
  pub values : sum.values + gone_values d (passed (deeper n) back) ≡ gone_values d (passed (deeper n) B)

pub record Going (heads marks values : List ℕ) (rows : ℕ) (from : Position) (n : ℕ) (d : List ℕ) (at : Position) (sum : Lost) : Type 0 where
  pub few : rows ≤ 264
  pub low : at.row ≤ rows
  pub mark : at.mark ≤ 1032 + 2047 * at.row
  pub value : at.value ≤ 257 + 511 * at.row
  pub few_marks : sum.marks ≤ 2047 * at.row
  pub few_values : sum.values ≤ 511 * at.row
  pub is : (keys : List ℕ) (c : Counts) (A B : List Row) → rows ≡ c.rows
      → Holds (four heads keys marks values) c (A ++ B) → from ≡ behind A → Reached d n (A ++ B) B at sum

module _ (heads marks values : List ℕ) (rows : ℕ) (from : Position) (n : ℕ) (d : List ℕ) where
  pub under_none : ((c : Counts) → rows ≡ c.rows → Between c from → ⊥) → UnderGone heads marks values rows from n d nothing
  under_none never = record {
    few_marks = omega arith;
    few_values = omega arith;
    is = λ keys c A B q h e. absurd (never c q (between _ c from A B h e));
  }

  pub going_start : rows ≤ 264 → from.row ≤ rows → from.mark ≤ 1032 → from.value ≤ 257
      → Going heads marks values rows from n d from nothing
  going_start f l m v = record {
    few = f;
    low = l;
    mark = omega arith;
    value = omega arith;
    few_marks = omega arith;
    few_values = omega arith;
    is = λ keys c A B q h e. record { front = A; back = B; all = refl; here = e; marks = omega arith; values = omega arith };
  }

  module _ (at : Position) (sum : Lost) (G : Going heads marks values rows from n d at sum) where
    -- nothing more goes
    going_done : ((keys : List ℕ) (c : Counts) (front back : List Row) → rows ≡ c.rows
        → Holds (four heads keys marks values) c (front ++ back) → at ≡ behind front → passed (deeper n) back ≡ [])
        → UnderGone heads marks values rows from n d sum
    going_done stop = record {
      few_marks = omega (arith, G.few_marks, G.low, G.few);
      few_values = omega (arith, G.few_values, G.low, G.few);
      is = λ keys c A B q h e. done keys c A B q h (G.is keys c A B q h e);
    }
      where
        done : (keys : List ℕ) (c : Counts) (A B : List Row) → rows ≡ c.rows
            → Holds (four heads keys marks values) c (A ++ B) → Reached d n (A ++ B) B at sum → Goes d (passed (deeper n) B) sum
        done keys c A B q h R =
            let z = stop keys c R.front R.back q (subst (Holds (four heads keys marks values) c) R.all h) R.here in
            record {
              marks = omega (arith, R.marks, ap (gone_marks d) z, none_marks d);
              values = omega (arith, R.values, ap (gone_values d) z, none_values d);
            }

    pub going_end : rows ≤ at.row → UnderGone heads marks values rows from n d sum
    going_end l = going_done (λ keys c front back q h e. ended keys c front back q h e)
      where
        ended : (keys : List ℕ) (c : Counts) (front back : List Row) → rows ≡ c.rows
            → Holds (four heads keys marks values) c (front ++ back) → at ≡ behind front → passed (deeper n) back ≡ []
        ended keys c front [] q h e = passed_nil n
        ended keys c front (r ∷ back) q h e = absurd (omega (arith, (here _ c at front r back h e).live))

    pub going_stop : (head : Head) → head ≡ head_in (get_or heads at.row 0) → head.depth ≤ n → UnderGone heads marks values rows from n d sum
    going_stop head f l = going_done (λ keys c front back q h e. ended keys c front back q h e)
      where
        ended : (keys : List ℕ) (c : Counts) (front back : List Row) → rows ≡ c.rows
            → Holds (four heads keys marks values) c (front ++ back) → at ≡ behind front → passed (deeper n) back ≡ []
        ended keys c front [] q h e = passed_nil n
        ended keys c front (r ∷ back) q h e = passed_no n r back (omega (arith, depth_said f, (here _ c at front r back h e).depth))

    -- one row more
    counted_on : at.row < rows → n < depth_in (get_or heads at.row 0) → (g : Lost) → RowGone heads marks values at d g
        → Going heads marks values rows from n d (further at (get_or heads at.row 0))
        (together sum g)
    counted_on l p g W =
        let w = get_or heads at.row 0 in
        let m : marks_at w < 2048 = omega arith in
        let v : values_at w < 512 = omega arith in
        record {
          few = G.few;
          low = omega arith;
          mark = omega (arith, G.mark, m);
          value = omega (arith, G.value, v);
          few_marks = omega (arith, G.few_marks, W.few_marks);
          few_values = omega (arith, G.few_values, W.few_values);
          is = λ keys c A B q h e. on keys c A B q h (G.is keys c A B q h e);
        }
      where
        step : (keys : List ℕ) (c : Counts) (rs B front back : List Row) → rows ≡ c.rows
            → Holds (four heads keys marks values) c (front ++ back) → rs ≡ front ++ back → at ≡ behind front
            → sum.marks + gone_marks d (passed (deeper n) back) ≡ gone_marks d (passed (deeper n) B)
            → sum.values + gone_values d (passed (deeper n) back) ≡ gone_values d (passed (deeper n) B)
            → Reached d n rs B (further at (get_or heads at.row 0))
            (together sum g)
        step keys c rs B front [] q h a e x y =
            absurd (omega (arith, (at-behind at front e).row, length-append front [], h.rows_are))
        step keys c rs B front (r ∷ back) q h a e x y =
            let k = here _ c at front r back h e in
            let z = passed_yes n r back (omega (arith, k.depth)) in
            let j = W.is keys c front r back h e in
            let P = passed (deeper n) back in
            record {
              front = front ++ r ∷ [];
              back = back;
              all = a ∙ sym (append_assoc front (r ∷ []) back);
              here = row_past heads keys marks values c front back r h at e;
              marks = omega (arith, x, ap (gone_marks d) z, more_marks d r P, j.marks);
              values = omega (arith, y, ap (gone_values d) z, more_values d r P, j.values);
            }

        on : (keys : List ℕ) (c : Counts) (A B : List Row) → rows ≡ c.rows
            → Holds (four heads keys marks values) c (A ++ B) → Reached d n (A ++ B) B at sum
            → Reached d n (A ++ B) B (further at (get_or heads at.row 0))
            (together sum g)
        on keys c A B q h R =
            step keys c (A ++ B) B R.front R.back q (subst (Holds (four heads keys marks values) c) R.all h) R.all R.here
            R.marks R.values

    pub going_on : (head : Head) → head ≡ head_in (get_or heads at.row 0) → at.row < rows → n < head.depth → (g : Lost)
        → RowGone heads marks values at d g → Going heads marks values rows from n d
        (record { row = at.row + 1; mark = at.mark + head.marks; value = at.value + head.values })
        (together sum g)
    going_on head e l p g W = rw (marks_said e, values-said e) (counted_on l (omega (arith, depth_said e)) g W)
