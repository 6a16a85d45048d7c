-- How many rows, marks and values there are after a change, in tables that hold rows.
-- Assumes nothing.
use Prim.Native.Nat.{ℕ, ◌+◌, ◌≤◌}
use native.Mathlib.Omega.{arith}
use mathlib.Core.Path.{◌≡◌, refl}
use mathlib.Core.List.{List, [], ◌∷◌, ◌++◌}
use lib.ListN.{length, length-append}
use Rattle.meaning.specs.Members.{own}
use Rattle.meaning.specs.Load.{marks_in, values_in}
use Rattle.meaning.specs.Sheet.{Spot, Row}
use Rattle.theorems.specs.Members.{put_length}
use Rattle.theorems.specs.Accepting.{marks_append, values-append}
use Rattle.rows.specs.Blocks.{new_row, mark_row}
use Rattle.tables.specs.Holding.{Holds, flag_row}
use Rattle.tables.specs.declared.Tables.{Tables}
use Rattle.tables.specs.declared.Counts.{Counts}
use Rattle.tables.specs.declared.Side.{Side}
use Rattle.tables.specs.declared.Side.TheVariants as S
use Rattle.act.specs.Acting.{Does}

-- How much more there is after a change of the row r, and of the rows us behind it; A are the rows before them and R those beyond.
pub block_does : (T U : Tables) (c e : Counts) (A R us ws : List Row) (r q : Row) (x y : ℕ) → Holds T c (A ++ r ∷ (us ++ R))
    → Holds U e (A ++ q ∷ (ws ++ R)) → length ws ≡ length us → marks_in ws ≤ marks_in us → values_in ws ≤ values_in us
    → length q.marks ≤ length r.marks + x → length q.values ≤ length r.values + y
    → Does U c e 0 x y (A ++ q ∷ (ws ++ R))
unfolding marks_in values_in
block_does T U c e A R us ws r q x y H N l m v mq vq = record {
  holds = N;
  rows_more = omega (
    arith,
    H.rows_are,
    N.rows_are,
    length-append A (r ∷ (us ++ R)),
    length-append A (q ∷ (ws ++ R)),
    length-append us R,
    length-append ws R,
  );
  marks_more = omega (
    arith,
    H.marks_are,
    N.marks_are,
    marks_append A (r ∷ (us ++ R)),
    marks_append A (q ∷ (ws ++ R)),
    marks_append us R,
    marks_append ws R,
  );
  values_more = omega (
    arith,
    H.values_are,
    N.values_are,
    values-append A (r ∷ (us ++ R)),
    values-append A (q ∷ (ws ++ R)),
    values-append us R,
    values-append ws R,
  );
}

-- of one row
pub row_does : (T U : Tables) (c e : Counts) (A R : List Row) (r q : Row) (x y : ℕ) → Holds T c (A ++ r ∷ R) → Holds U e (A ++ q ∷ R)
    → length q.marks ≤ length r.marks + x → length q.values ≤ length r.values + y → Does U c e 0 x y (A ++ q ∷ R)
row_does T U c e A R r q x y H N = block_does T U c e A R [] [] r q x y H N refl (omega arith) (omega arith)

pub marked_more : (i : ℕ) (r : Row) → length (mark_row i r).marks ≤ length r.marks + 1
marked_more i r = omega (arith, put_length own i r.marks)

pub flag_marks : (b : Side) (r : Row) → length (flag_row b r).marks ≡ length r.marks
flag_marks S.List r = refl
flag_marks S.Map r = refl

pub flag_values : (b : Side) (r : Row) → length (flag_row b r).values ≡ length r.values
flag_values S.List r = refl
flag_values S.Map r = refl

-- a new row is one more, with no mark and no value
pub record Opened (c e : Counts) : Type 0 where
  pub rows : e.rows ≡ c.rows + 1
  pub marks : e.marks ≡ c.marks
  pub values : e.values ≡ c.values

pub opened_counts : (T U : Tables) (c e : Counts) (A R : List Row) (n : ℕ) (p : Spot) → Holds T c (A ++ R)
    → Holds U e (A ++ new_row n p ∷ R) → Opened c e
unfolding marks_in values_in
opened_counts T U c e A R n p H N = record {
  rows = omega (arith, N.rows_are, H.rows_are, length-append A R, length-append A (new_row n p ∷ R));
  marks = omega (arith, N.marks_are, H.marks_are, marks_append A R, marks_append A (new_row n p ∷ R));
  values = omega (arith, N.values_are, H.values_are, values-append A R, values-append A (new_row n p ∷ R));
}
