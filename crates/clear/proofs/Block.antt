-- A block cleared: the pass begins without a gap, and where it has gone over the block the gaps are closed.
-- Assumes nothing.
use Prim.Native.Nat.{ℕ, ◌+◌, ◌*◌, ◌-◌, ◌/◌, ◌≤◌, ◌<◌}
use native.Mathlib.Nat.{add-zero}
use native.Mathlib.Omega.{arith}
use mathlib.Core.Path.{◌≡◌, refl, sym, ap, ◌∙◌}
use mathlib.Core.List.{List, [], ◌∷◌, ◌++◌, map, append_assoc}
use lib.ListN.{length, replicate, length-append, replicate-append-replicate}
use Rattle.meaning.specs.Sheet.{Row}
use Rattle.theorems.specs.Accepting.{marks_append, values-append}
use Rattle.rows.specs.Blocks.{passed, rest, deeper, clear_row}
use Rattle.rows.specs.Balanced.{passed-rest}
use Rattle.words.specs.Words.{closed}
use Rattle.words.proofs.Over.{over_none, keep_close, shrunk_parts}
use Rattle.tables.specs.Words.{spot_words, heads_of, keys_of, marks_of, values_of, pad}
use Rattle.tables.specs.Standing.{behind, keys-append, heads-length}
use Rattle.tables.specs.Holding.{heads_room, keys_room, marks_room, values_room, Good, Holds, four}
use Rattle.tables.specs.Parts.{marks_length, values_length, marks_of_append, values_of_append, at-behind, all_left, all_right, all_both}
use Rattle.tables.specs.Parts.{heads_long, marks_long, values_long}
use Rattle.tables.specs.declared.Counts.{Counts}
use Rattle.tables.specs.declared.Position.{Position}
use Rattle.clear.specs.declared.Cursor.{Cursor}
use Rattle.clear.specs.WithGap.{WithGap}
use Rattle.clear.specs.Clear.{Pass, passing, Gaps, ClearsPlace, Clears}

-- The words that a gap leaves free go behind the live ones.
closed_gap : (X G B Z : List ℕ) (to from live : ℕ) → length X ≡ to → to + length G ≡ from → from + length B ≡ live
    → closed 0 live from to (X ++ (G ++ (B ++ Z))) ≡ X ++ (B ++ (replicate (length G) 0 ++ Z))
closed_gap X G B Z to from live e f g =
    let t : List ℕ = X ++ (G ++ (B ++ Z)) in
    let l : length t ≡ length X + (length G + (length B + length Z)) = simp length-append in
    let k = keep_close 0 live from to [] t (omega arith) (omega arith) (omega arith) in
    let n : length G - 0 ≡ length G = omega arith in
    rw (over_none to t, add-zero to) at k ∙ (shrunk_parts 0 X G B Z [] to from live e f g (omega arith) ∙ rw n)

-- live words and zeros, as many as there is room for
pad_from : (n k : ℕ) (live : List ℕ) → length live + k ≡ n → live ++ replicate k 0 ≡ pad n live
pad_from n k live e =
    let f : k ≡ n - length live = omega arith in
    ap (λ k. live ++ replicate k 0) f

-- clearing changes no key
keys-map : (d : List ℕ) (us : List Row) → keys_of (map (clear_row d) us) ≡ keys_of us
unfolding keys_of
keys-map d [] = refl
keys-map d (r ∷ us) = ap (spot_words r.spot ++◌) (keys-map d us)

keys_clear : (d : List ℕ) (A R : List Row) (r : Row) (n : ℕ)
    → keys_of (A ++ clear_row d r ∷ (map (clear_row d) (passed (deeper n) R) ++ rest (deeper n) R)) ≡ keys_of (A ++ r ∷ R)
unfolding keys_of
keys_clear d A R r n =
    let P : List Row = passed (deeper n) R in
    let Q : List Row = rest (deeper n) R in
    let e : keys_of (map (clear_row d) P ++ Q) ≡ keys_of R =
    keys-append (map (clear_row d) P) Q
    ∙ (ap (◌++ keys_of Q) (keys-map d P) ∙ (sym (keys-append P Q) ∙ ap keys_of (passed-rest (deeper n) R))) in
    keys-append A (clear_row d r ∷ (map (clear_row d) P ++ Q))
    ∙ (ap (λ l. keys_of A ++ (spot_words r.spot ++ l)) e ∙ sym (keys-append A (r ∷ R)))

-- where the pass begins
abbrev pub begin : Position → Cursor
begin s = record { row = s.row; mark = s.mark; marked = s.mark; value = s.value * 6; valued = s.value * 6 }

-- what the tests at the start look for
pub record Sits (h m v : List ℕ) (c : Counts) (s : Position) : Type 0 where
  pub rows_in : c.rows ≤ length h
  pub row_in : s.row < c.rows
  pub marks_in : c.marks ≤ length m
  pub mark_in : s.mark ≤ c.marks
  pub values_in : c.values ≤ length v / 6
  pub value_in : s.value ≤ c.values

module _ (h m v : List ℕ) (c : Counts) (s : Position) (k : List ℕ) (A R : List Row) (r : Row) (H : Holds (four h k m v) c (A ++ r ∷ R))
    (e : s ≡ behind A) where
  pub sits : Sits h m v c s
  sits =
      let a = at-behind s A e in
      record {
        rows_in = omega (arith, heads_long (four h k m v) c (A ++ r ∷ R) H, H.rows_fit);
        row_in = omega (arith, a.row, H.rows_are, length-append A (r ∷ R));
        marks_in = omega (arith, marks_long (four h k m v) c (A ++ r ∷ R) H, H.marks_fit);
        mark_in = omega (arith, a.mark, H.marks_are, marks_append A (r ∷ R));
        values_in = omega (arith, values_long (four h k m v) c (A ++ r ∷ R) H, H.values_fit);
        value_in = omega (arith, a.value, H.values_are, values-append A (r ∷ R));
      }

  pub begins : WithGap c h m v (begin s) A (r ∷ R)
  begins =
      let a = at-behind s A e in
      let i : length (heads_of (A ++ r ∷ R)) ≡ c.rows = heads-length (A ++ r ∷ R) ∙ sym H.rows_are in
      let j : length (marks_of (A ++ r ∷ R)) ≡ c.marks = marks_length (A ++ r ∷ R) ∙ sym H.marks_are in
      let l : length (values_of (A ++ r ∷ R)) ≡ c.values * 6 = values_length (A ++ r ∷ R) ∙ ap (◌* 6) (sym H.values_are) in
      record {
        gap = [];
        gap_values = [];
        heads = H.heads ∙ ap (λ n. heads_of (A ++ r ∷ R) ++ replicate (heads_room - n) 0) i;
        marks = H.marks
            ∙ (ap (λ n. marks_of (A ++ r ∷ R) ++ replicate (marks_room - n) 0) j
            ∙ (ap (◌++ replicate (marks_room - c.marks) 0) (marks_of_append A (r ∷ R))
            ∙ append_assoc (marks_of A) (marks_of (r ∷ R)) (replicate (marks_room - c.marks) 0)));
        values = H.values
            ∙ (ap (λ n. values_of (A ++ r ∷ R) ++ replicate (values_room - n) 0) l
            ∙ (ap (◌++ replicate (values_room - c.values * 6) 0) (values_of_append A (r ∷ R))
            ∙ append_assoc (values_of A) (values_of (r ∷ R)) (replicate (values_room - c.values * 6) 0)));
        row_is = a.row;
        marked-is = a.mark ∙ sym (marks_length A);
        mark-is = omega arith;
        valued-is = omega (arith, a.value, values_length A);
        value_is = omega arith;
        rows_are = H.rows_are ∙ length-append A (r ∷ R);
        marks_are = omega (arith, a.mark, marks_length (r ∷ R), marks_append A (r ∷ R), H.marks_are);
        values_are = omega (arith, a.value, values_length (r ∷ R), values-append A (r ∷ R), H.values_are);
        rows_fit = H.rows_fit;
        marks_fit = H.marks_fit;
        values_fit = H.values_fit;
        good_before = all_left Good A (r ∷ R) H.good;
        good_behind = all_right Good A (r ∷ R) H.good;
      }

-- the counts behind a pass
abbrev pub counted : Counts → Cursor → Counts
counted c q = record { rows = c.rows; marks = c.marks - (q.mark - q.marked); values = (c.values * 6 - (q.value - q.valued)) / 6 }

-- the gaps closed
module _ (c : Counts) (y : Pass) (B us : List Row) (G : Gaps c y B us) where
  marks_closed : closed 0 c.marks y.at.mark y.at.marked y.marks ≡ pad marks_room (marks_of (B ++ us))
  marks_closed =
      let z : ℕ = marks_room - c.marks in
      let n : length (marks_of (B ++ us)) ≡ length (marks_of B) + length (marks_of us) =
      ap length (marks_of_append B us) ∙ length-append (marks_of B) (marks_of us) in
      ap (closed 0 c.marks y.at.mark y.at.marked) G.marks
      ∙ (closed_gap (marks_of B) G.gap (marks_of us) (replicate z 0) y.at.marked y.at.mark c.marks (sym G.marked-is)
      (sym G.mark-is) (sym G.marks_are)
      ∙ (ap (λ l. marks_of B ++ (marks_of us ++ l)) (replicate-append-replicate (length G.gap) z 0)
      ∙ (sym (append_assoc (marks_of B) (marks_of us) (replicate (length G.gap + z) 0))
      ∙ (ap (◌++ replicate (length G.gap + z) 0) (sym (marks_of_append B us))
      ∙ pad_from marks_room (length G.gap + z) (marks_of (B ++ us))
      (omega (arith, G.marked-is, G.mark-is, G.marks_are, G.marks_fit))))))

  values-closed : closed 0 (c.values * 6) y.at.value y.at.valued y.values ≡ pad values_room (values_of (B ++ us))
  values-closed =
      let z : ℕ = values_room - c.values * 6 in
      let n : length (values_of (B ++ us)) ≡ length (values_of B) + length (values_of us) =
      ap length (values_of_append B us) ∙ length-append (values_of B) (values_of us) in
      ap (closed 0 (c.values * 6) y.at.value y.at.valued) G.values
      ∙ (closed_gap (values_of B) G.gap_values (values_of us) (replicate z 0) y.at.valued y.at.value (c.values * 6)
      (sym G.valued-is) (sym G.value_is) (sym G.values_are)
      ∙ (ap (λ l. values_of B ++ (values_of us ++ l)) (replicate-append-replicate (length G.gap_values) z 0)
      ∙ (sym (append_assoc (values_of B) (values_of us) (replicate (length G.gap_values + z) 0))
      ∙ (ap (◌++ replicate (length G.gap_values + z) 0) (sym (values_of_append B us))
      ∙ pad_from values_room (length G.gap_values + z) (values_of (B ++ us))
      (omega (arith, G.valued-is, G.value_is, G.values_are, G.values_fit))))))

  ends : (k m' v' : List ℕ) → k ≡ pad keys_room (keys_of (B ++ us)) → m' ≡ closed 0 c.marks y.at.mark y.at.marked y.marks
      → v' ≡ closed 0 (c.values * 6) y.at.value y.at.valued y.values
      → Holds (four y.heads k m' v') (counted c y.at) (B ++ us)
  ends k m' v' e f g =
      let n : length (heads_of (B ++ us)) ≡ c.rows = heads-length (B ++ us) ∙ (length-append B us ∙ sym G.rows_are) in
      let i = marks_length (B ++ us) in
      let j = values_length (B ++ us) in
      let a = ap length (marks_of_append B us) ∙ length-append (marks_of B) (marks_of us) in
      let b = ap length (values_of_append B us) ∙ length-append (values_of B) (values_of us) in
      record {
        heads = G.heads ∙ ap (λ n. heads_of (B ++ us) ++ replicate (heads_room - n) 0) (sym n);
        keys = e;
        marks = f ∙ marks_closed;
        values = g ∙ values-closed;
        rows_are = G.rows_are ∙ sym (length-append B us);
        marks_are = omega (arith, G.marked-is, G.mark-is, G.marks_are);
        values_are = omega (arith, G.valued-is, G.value_is, G.values_are);
        rows_fit = G.rows_fit;
        marks_fit = omega (arith, G.marks_fit);
        values_fit = omega (arith, G.values_fit);
        good = all_both Good B us G.good_before G.good_behind;
      }

-- What `clear_block` leaves.
module _ (d h m v : List ℕ) (c : Counts) (s : Position) where
  -- a test that fails for no tables that hold rows
  pub refused : (h' m' v' : List ℕ)
      → ((k : List ℕ) (A R : List Row) (r : Row) → Holds (four h k m v) c (A ++ r ∷ R) → s ≡ behind A → ⊥) → Clears d h m v c s h' m' v' c
  refused h' m' v' f = record {
    holds = λ k A R r H e. absurd (f k A R r H e);
    rows_same = refl;
    marks_fewer = omega arith;
    values_fewer = omega arith;
  }

  pub not_sitting : (Sits h m v c s → ⊥) → Clears d h m v c s h m v c
  not_sitting f = refused h m v (λ k A R r H e. f (sits h m v c s k A R r H e))

  module _ (y : Pass) (P : ClearsPlace d c.rows 8 (passing h m v (begin s)) y) where
    gone-over : (k : List ℕ) (A R : List Row) (r : Row) → Holds (four h k m v) c (A ++ r ∷ R) → s ≡ behind A
        → Gaps c y (A ++ clear_row d r ∷ map (clear_row d) (passed (deeper r.depth) R)) (rest (deeper r.depth) R)
    gone-over k A R r H e = P.clears c A R r refl (omega arith) (begins h m v c s k A R r H e)

    pub far_marks : c.marks < y.at.mark → Clears d h m v c s y.heads y.marks y.values c
    far_marks l = refused y.heads y.marks y.values (λ k A R r H e. omega (arith, (gone-over k A R r H e).marks_are))

    pub far_values : c.values * 6 < y.at.value → Clears d h m v c s y.heads y.marks y.values c
    far_values l = refused y.heads y.marks y.values (λ k A R r H e. omega (arith, (gone-over k A R r H e).values_are))

    pub block_done : (m' v' : List ℕ) → m' ≡ closed 0 c.marks y.at.mark y.at.marked y.marks
        → v' ≡ closed 0 (c.values * 6) y.at.value y.at.valued y.values
        → Clears d h m v c s y.heads m' v' (counted c y.at)
    block_done m' v' f g = record {
      holds = go;
      rows_same = refl;
      marks_fewer = omega arith;
      values_fewer = omega arith;
    }
      where
        go : (k : List ℕ) (A R : List Row) (r : Row) → Holds (four h k m v) c (A ++ r ∷ R) → s ≡ behind A
            → Holds (four y.heads k m' v') (counted c y.at)
            (A ++ clear_row d r ∷ (map (clear_row d) (passed (deeper r.depth) R) ++ rest (deeper r.depth) R))
        go k A R r H e =
            let M : List Row = map (clear_row d) (passed (deeper r.depth) R) in
            let Q : List Row = rest (deeper r.depth) R in
            let a : (A ++ clear_row d r ∷ M) ++ Q ≡ A ++ clear_row d r ∷ (M ++ Q) = append_assoc A (clear_row d r ∷ M) Q in
            let j : k ≡ pad keys_room (keys_of ((A ++ clear_row d r ∷ M) ++ Q)) =
            H.keys ∙ ap (pad keys_room) (sym (ap keys_of a ∙ keys_clear d A R r r.depth)) in
            rw a at (ends c y (A ++ clear_row d r ∷ M) Q (gone-over k A R r H e) k m' v' j f g)
