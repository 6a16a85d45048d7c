-- Tables that hold rows, one of which is changed: its head is written anew, its marks and its values may be others, its spot stays.
-- Assumes nothing.
use Rattle.std.specs.Prelude.{ℕ, ◌+◌, ◌-◌, ◌≤◌, ◌<◌, ◌≡◌, List, ◌∷◌, ◌++◌, length, set, replicate}
use Rattle.std.proofs.Common.{arith, ap, ◌∙◌, length-append}
use Rattle.std.proofs.Math.Path.{sym}
use Rattle.std.proofs.lemmas.List.{set_at}
use Rattle.meaning.specs.Load.{marks_in, values_in}
use Rattle.meaning.specs.Sheet.{Row}
use Rattle.theorems.specs.Accepting.{marks_append, values-append}
use Rattle.tables.specs.Words.{head_word, heads_of, keys_of, marks_of, values_of, each_value, spot_words, pad}
use Rattle.tables.specs.declared.Tables.{Tables}
use Rattle.tables.specs.Standing.{keys-append, heads-length}
use Rattle.tables.specs.Holding.{heads_room, keys_room, marks_room, values_room, Good, Holds, four}
use Rattle.tables.specs.Parts.{marks_of_append, values_of_append, all_left, all_right, all_both, heads_long, heads-parts}
use Rattle.tables.specs.declared.Counts.{Counts}

module _ (A : List Row) (r : Row) (R : List Row) where
  pub marks_between : marks_in (A ++ r ∷ R) ≡ marks_in A + (length r.marks + marks_in R)
  unfolding marks_in
  marks_between = marks_append A (r ∷ R)

  pub values-between : values_in (A ++ r ∷ R) ≡ values_in A + (length r.values + values_in R)
  unfolding values_in
  values-between = values-append A (r ∷ R)

  pub rows_between : length (A ++ r ∷ R) ≡ length A + (1 + length R)
  rows_between = length-append A (r ∷ R) ∙ omega arith

  -- the row is in the table of heads
  pub row_in : (T : Tables) (c : Counts) → Holds T c (A ++ r ∷ R) → length A < length T.heads
  row_in T c H = omega (arith, heads_long T c (A ++ r ∷ R) H, H.rows_are, H.rows_fit, rows_between)

-- A row in the place of another.
module _ (A : List Row) (r r' : Row) (R : List Row) where
  heads_same : length (heads_of (A ++ r ∷ R)) ≡ length (heads_of (A ++ r' ∷ R))
  heads_same =
      omega (arith, heads-length (A ++ r ∷ R), heads-length (A ++ r' ∷ R), rows_between A r R, rows_between A r' R)

  head_written : (h : List ℕ) → h ≡ pad heads_room (heads_of (A ++ r ∷ R)) → set h (length A) (head_word r') ≡ pad heads_room
      (heads_of (A ++ r' ∷ R))
  head_written h e =
      let z : List ℕ = replicate (heads_room - length (heads_of (A ++ r ∷ R))) 0 in
      ap (λ l. set l (length A) (head_word r')) (e ∙ heads-parts A r R z)
      ∙ (set_at (heads_of A) (head_word r) (heads_of R ++ z) (head_word r') (length A) (heads-length A)
      ∙ (sym (heads-parts A r' R z) ∙ ap (λ n. heads_of (A ++ r' ∷ R) ++ replicate (heads_room - n) 0) heads_same))

  keys_same : r.spot ≡ r'.spot → keys_of (A ++ r ∷ R) ≡ keys_of (A ++ r' ∷ R)
  unfolding keys_of
  keys_same e =
      keys-append A (r ∷ R) ∙ (ap (λ p. keys_of A ++ (spot_words p ++ keys_of R)) e ∙ sym (keys-append A (r' ∷ R)))

  pub marks_same : r.marks ≡ r'.marks → marks_of (A ++ r ∷ R) ≡ marks_of (A ++ r' ∷ R)
  unfolding marks_of
  marks_same e =
      marks_of_append A (r ∷ R) ∙ (ap (λ ms. marks_of A ++ (ms ++ marks_of R)) e ∙ sym (marks_of_append A (r' ∷ R)))

  pub values_same : r.values ≡ r'.values → values_of (A ++ r ∷ R) ≡ values_of (A ++ r' ∷ R)
  unfolding values_of
  values_same e =
      values_of_append A (r ∷ R) ∙ (ap (λ vs. values_of A ++ (each_value vs ++ values_of R)) e ∙ sym (values_of_append A (r' ∷ R)))

  pub changed : (h k m v m' v' : List ℕ) (c e : Counts) → Holds (four h k m v) c (A ++ r ∷ R) → r.spot ≡ r'.spot → (Good r → Good r')
      → m' ≡ pad marks_room (marks_of (A ++ r' ∷ R)) → v' ≡ pad values_room (values_of (A ++ r' ∷ R))
      → e.rows ≡ c.rows → e.marks + length r.marks ≡ c.marks + length r'.marks
      → e.values + length r.values ≡ c.values + length r'.values → e.marks ≤ 1032 → e.values ≤ 257
      → Holds (four (set h (length A) (head_word r')) k m' v') e (A ++ r' ∷ R)
  changed h k m v m' v' c e H s g p q x y z f l =
      let G = all_right Good A (r ∷ R) H.good in
      record {
        heads = head_written h H.heads;
        keys = H.keys ∙ ap (pad keys_room) (keys_same s);
        marks = p;
        values = q;
        rows_are = omega (arith, H.rows_are, rows_between A r R, rows_between A r' R);
        marks_are = omega (arith, H.marks_are, marks_between A r R, marks_between A r' R);
        values_are = omega (arith, H.values_are, values-between A r R, values-between A r' R);
        rows_fit = omega (arith, H.rows_fit);
        marks_fit = f;
        values_fit = l;
        good = all_both Good A (r' ∷ R) (all_left Good A (r ∷ R) H.good) (g G.0, G.1);
      }
