-- The row at a place of tables that hold rows: its head, its marks and its values, as the code reads them.
-- Assumes nothing.
use Prim.Native.Nat.{ℕ, ◌+◌, ◌*◌, ◌-◌, ◌≤◌, ◌<◌}
use native.Mathlib.Omega.{arith}
use mathlib.Core.Path.{◌≡◌, sym, ap, ◌∙◌}
use mathlib.Core.List.{List, ◌∷◌, ◌++◌}
use lib.ListN.{length, take, drop, get_or, replicate, length-append}
use lib.Seq.{get_or_at, drop_at, take-append_seam}
use Rattle.meaning.specs.Load.{marks_in, values_in}
use Rattle.meaning.specs.Sheet.{Row}
use Rattle.theorems.specs.Accepting.{marks_append, values-append}
use Rattle.words.specs.Words.{run}
use Rattle.tables.specs.Words.{head_word, each_value, heads_of, marks_of, values_of, depth_in, marks_at, values_at}
use Rattle.tables.specs.declared.Tables.{Tables}
use Rattle.tables.specs.Finds.{Narrow, AllNarrow, depth_in_lem, marks_in_lem, values_in_lem}
use Rattle.tables.specs.Standing.{behind, heads-length}
use Rattle.tables.specs.Holding.{values_room, Holds}
use Rattle.tables.specs.Parts as P
use Rattle.tables.specs.declared.Counts.{Counts}
use Rattle.tables.specs.declared.Position.{Position}

pub record Here (T : Tables) (c : Counts) (s : Position) (r : Row) : Type 0 where
  pub live : s.row < c.rows
  pub row : s.row < length T.heads
  pub few : s.row ≤ 264
  pub mark : s.mark ≤ 1032
  pub value : s.value ≤ 257
  pub depth : depth_in (get_or T.heads s.row 0) ≡ r.depth
  pub marks : marks_at (get_or T.heads s.row 0) ≡ length r.marks
  pub values : values_at (get_or T.heads s.row 0) ≡ length r.values
  pub marks_fit : s.mark + length r.marks ≤ length T.marks
  pub values_fit : s.value * 6 + length r.values * 6 ≤ length T.values
  pub marks_run : run s.mark (length r.marks) T.marks ≡ r.marks
  pub behind-values : List ℕ
  pub values-drop : drop (s.value * 6) T.values ≡ each_value r.values ++ behind-values

-- a place between rows, or behind the last
pub record Between (c : Counts) (s : Position) : Type 0 where
  pub few : c.rows ≤ 264
  pub row : s.row ≤ c.rows
  pub mark : s.mark ≤ 1032
  pub value : s.value ≤ 257

pub between : (T : Tables) (c : Counts) (s : Position) (a b : List Row) → Holds T c (a ++ b) → s ≡ behind a → Between c s
between T c s a b h e =
    let at = P.at-behind s a e in
    record {
      few = h.rows_fit;
      row = omega (arith, at.row, length-append a b, h.rows_are);
      mark = omega (arith, at.mark, marks_append a b, h.marks_are, h.marks_fit);
      value = omega (arith, at.value, values-append a b, h.values_are, h.values_fit);
    }

module _ (T : Tables) (c : Counts) (s : Position) (a : List Row) (r : Row) (b : List Row) (h : Holds T c (a ++ r ∷ b)) (e : s ≡ behind a) where
  at : P.At s a
  at = P.at-behind s a e

  narrow : Narrow r
  unfolding AllNarrow
  narrow = (P.all_narrow_right a (r ∷ b) (P.holds_narrow T c (a ++ r ∷ b) h)).0

  marks_sum : marks_in (a ++ r ∷ b) ≡ marks_in a + (length r.marks + marks_in b)
  unfolding marks_in
  marks_sum = marks_append a (r ∷ b)

  values-sum : values_in (a ++ r ∷ b) ≡ values_in a + (length r.values + values_in b)
  unfolding values_in
  values-sum = values-append a (r ∷ b)

  head : get_or T.heads s.row 0 ≡ head_word r
  head =
      ap (λ t. get_or t s.row 0) (h.heads ∙ P.heads-parts a r b _)
      ∙ get_or_at (heads_of a) (head_word r) _ 0 s.row (heads-length a ∙ sym at.row)

  pub here : Here T c s r
  unfolding run
  here =
      let n = narrow in
      let l : s.row < c.rows = omega (arith, at.row, length-append a (r ∷ b), h.rows_are) in
      record {
        live = l;
        row = omega (arith, P.heads_long T c (a ++ r ∷ b) h, h.rows_fit);
        few = omega (arith, h.rows_fit);
        mark = omega (arith, at.mark, marks_sum, h.marks_are, h.marks_fit);
        value = omega (arith, at.value, values-sum, h.values_are, h.values_fit);
        depth = ap depth_in head ∙ depth_in_lem r n;
        marks = ap marks_at head ∙ marks_in_lem r n;
        values = ap values_at head ∙ values_in_lem r n;
        marks_fit = omega (arith, at.mark, marks_sum, h.marks_are, h.marks_fit, P.marks_long T c (a ++ r ∷ b) h);
        values_fit = omega (arith, at.value, values-sum, h.values_are, h.values_fit, P.values_long T c (a ++ r ∷ b) h);
        marks_run =
            ap (λ t. take (length r.marks) (drop s.mark t)) (h.marks ∙ P.marks_parts a r b _)
            ∙ (ap (take (length r.marks)) (drop_at (marks_of a) _ s.mark (P.marks_length a ∙ sym at.mark))
            ∙ take-append_seam r.marks _);
        behind-values = values_of b ++ replicate (values_room - length (values_of (a ++ r ∷ b))) 0;
        values-drop =
            ap (drop (s.value * 6)) (h.values ∙ P.values-parts a r b _)
            ∙ drop_at (values_of a) _ (s.value * 6) (P.values_length a ∙ ap (λ n. n * 6) (sym at.value));
      }
