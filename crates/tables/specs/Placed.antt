-- What is known of a row that stands behind others in tables that hold them: its head says how many marks and values it has, and these are
-- among the live ones.
-- Assumes nothing.
use Rattle.std.specs.Prelude.{◌+◌, ◌≤◌, ◌<◌, ◌≡◌, List, ◌∷◌, ◌++◌, length, get_or}
use Rattle.std.proofs.Common.{arith}
use Rattle.meaning.specs.Sheet.{Row}
use Rattle.tables.specs.Words.{head_word, marks_at, values_at}
use Rattle.tables.specs.declared.Tables.{Tables}
use Rattle.tables.specs.Finds.{bit_small, side_small, marks_in_lem, values_in_lem}
use Rattle.tables.specs.Standing.{behind}
use Rattle.tables.specs.Holding.{Good, Holds}
use Rattle.tables.specs.Parts.{at-behind, narrow_at, all_right, marks_long, values_long}
use Rattle.tables.specs.Stands.{head_at_lem}
use Rattle.tables.specs.declared.Counts.{Counts}
use Rattle.tables.specs.declared.Position.{Position}
use Rattle.tables.specs.Changed.{marks_between, values-between, row_in}

pub record Placed (T : Tables) (c : Counts) (s : Position) (r : Row) : Type 0 where
  pub row : s.row < length T.heads
  pub head : get_or T.heads s.row 0 ≡ head_word r
  pub small : get_or T.heads s.row 0 < 134217728
  pub marks : marks_at (get_or T.heads s.row 0) ≡ length r.marks
  pub values : values_at (get_or T.heads s.row 0) ≡ length r.values
  pub marks_low : s.mark + length r.marks ≤ c.marks
  pub values_low : s.value + length r.values ≤ c.values
  pub marks_long : length T.marks ≡ 1032
  pub values_long : length T.values ≡ 1542
  pub good : Good r

pub placed : (T : Tables) (c : Counts) (s : Position) (A R : List Row) (r : Row) → Holds T c (A ++ r ∷ R) → s ≡ behind A → Placed T c s r
placed T c s A R r H e =
    let p = at-behind s A e in
    let n = narrow_at T c A r R H in
    let d : get_or T.heads s.row 0 ≡ head_word r = rw p.row (head_at_lem T.heads T.keys T.marks T.values c A R r H) in
    record {
      row = omega (arith, p.row, row_in A r R T c H);
      head = d;
      small = rw d (omega (arith, n.depth, n.marks, n.values, side_small r.spot, bit_small r.map, bit_small r.list));
      marks = rw d (marks_in_lem r n);
      values = rw d (values_in_lem r n);
      marks_low = omega (arith, p.mark, H.marks_are, marks_between A r R);
      values_low = omega (arith, p.value, H.values_are, values-between A r R);
      marks_long = marks_long T c (A ++ r ∷ R) H;
      values_long = values_long T c (A ++ r ∷ R) H;
      good = (all_right Good A (r ∷ R) H.good).0;
    }
