-- One row cleared: its marks and values that stay are moved down to those before them, and its head says how many they are.
-- Assumes nothing.
use Prim.Native.Nat.{ℕ, ◌+◌, ◌*◌, ◌-◌, ◌/◌, ◌≤◌}
use native.Mathlib.Omega.{arith}
use mathlib.Core.Path.{◌≡◌, refl, sym, ap, ◌∙◌}
use mathlib.Core.List.{List, [], ◌∷◌, ◌++◌, append_assoc, append-nil}
use lib.ListN.{length, take, drop, get_or, set, replicate, length-append, length-drop, take-append-drop}
use lib.Seq.{length-take-le, get_or_at, set_at, drop_at}
use Rattle.meaning.specs.Ids.{uncovered}
use Rattle.meaning.specs.Sets.{keep}
use Rattle.meaning.specs.Clear.{clear_marks, clear_values}
use Rattle.meaning.specs.Members.{own, id_of_value}
use Rattle.meaning.specs.Sheet.{Row}
use Rattle.theorems.specs.Members.{all_append, keep_length, asc_keep}
use Rattle.rows.specs.Blocks.{clear_row}
use Rattle.words.specs.Words.{run, over_at}
use Rattle.words.specs.Rows.{keep_rows, Kept}
use Rattle.words.proofs.Over.{over-parts, run-parts}
use Rattle.words.proofs.Flat.{flat_keep}
use Rattle.tables.specs.Words.{head_word, value_words, each_value, heads_of, marks_of, values_of}
use Rattle.tables.specs.Heads.{with_counts}
use Rattle.tables.specs.Finds.{Narrow}
use Rattle.tables.specs.Standing.{heads-length}
use Rattle.tables.specs.Holding.{heads_room, marks_room, values_room, Good}
use Rattle.tables.specs.Parts.{marks_of_append, values_of_append, each_length, heads-parts}
use Rattle.tables.specs.Rewritten.{counts_word}
use Rattle.tables.specs.Values.{strides_value, each_flat}
use Rattle.tables.specs.declared.Counts.{Counts}
use Rattle.clear.specs.declared.Cursor.{Cursor}
use Rattle.clear.specs.WithGap.{WithGap}

-- K laid behind X, over words of the gap G and of B, of which it is a part: the gap is then what is left of the two.
keep_gap : (X G B Y K : List ℕ) (to : ℕ) → length X ≡ to → length K ≤ length (G ++ B)
    → over_at to K (X ++ (G ++ (B ++ Y))) ≡ (X ++ K) ++ (drop (length K) (G ++ B) ++ Y)
keep_gap X G B Y K to e h =
    let P : List ℕ = take (length K) (G ++ B) in
    let Q : List ℕ = drop (length K) (G ++ B) in
    let g : G ++ (B ++ Y) ≡ P ++ (Q ++ Y) =
    sym (append_assoc G B Y) ∙ (ap (◌++ Y) (sym (take-append-drop (length K) (G ++ B))) ∙ append_assoc P Q Y) in
    rw g (over-parts X P (Q ++ Y) K to e (sym (length-take-le (length K) (G ++ B) h)) ∙ sym (append_assoc X K (Q ++ Y)))

pub good_clear : (d : List ℕ) (r : Row) → Good r → Good (clear_row d r)
unfolding clear_marks clear_values
good_clear d r g = record {
  spot = g.spot;
  depth = g.depth;
  marks = asc_keep own (λ i. uncovered d i) r.marks g.marks;
  values = asc_keep id_of_value (λ v. uncovered d v.id) r.values g.values;
}

-- The row at the cursor.
module _ (c : Counts) (h m v : List ℕ) (p : Cursor) (A us : List Row) (r : Row) (G : WithGap c h m v p A (r ∷ us)) where
  marks_behind : marks_of (r ∷ us) ≡ r.marks ++ marks_of us
  unfolding marks_of
  marks_behind = refl

  values-behind : values_of (r ∷ us) ≡ each_value r.values ++ values_of us
  unfolding values_of
  values-behind = refl

  marks_here : length (marks_of (r ∷ us)) ≡ length r.marks + length (marks_of us)
  marks_here = ap length marks_behind ∙ length-append r.marks (marks_of us)

  values_here : length (values_of (r ∷ us)) ≡ length r.values * 6 + length (values_of us)
  values_here =
      ap length values-behind ∙ (length-append (each_value r.values) (values_of us) ∙ ap (◌+ length (values_of us))
      (each_length r.values))

  pub narrow_here : Narrow r
  narrow_here = record {
    spot = G.good_behind.0.spot;
    depth = omega (arith, G.good_behind.0.depth);
    marks = omega (arith, G.marks_are, G.marks_fit, marks_here);
    values = omega (arith, G.values_are, G.values_fit, values_here);
  }

  pub head_here : get_or h p.row 0 ≡ head_word r
  head_here =
      ap (λ l. get_or l p.row 0) (G.heads ∙ heads-parts A r us _)
      ∙ get_or_at (heads_of A) (head_word r) (heads_of us ++ _) 0 p.row (heads-length A ∙ sym G.row_is)

  -- the row's marks and values are where the cursor reads
  marks_split : m ≡ (marks_of A ++ G.gap) ++ (r.marks ++ (marks_of us ++ replicate (marks_room - c.marks) 0))
  marks_split = G.marks ∙ rw (marks_behind) (simp append_assoc)

  values_split : v ≡ (values_of A ++ G.gap_values) ++ (each_value r.values ++ (values_of us ++ replicate (values_room - c.values * 6) 0))
  values_split = G.values ∙ rw (values-behind) (simp append_assoc)

  marks_before : length (marks_of A ++ G.gap) ≡ p.mark
  marks_before = length-append (marks_of A) G.gap ∙ omega (arith, G.mark-is, G.marked-is)

  values_before : length (values_of A ++ G.gap_values) ≡ p.value
  values_before = length-append (values_of A) G.gap_values ∙ omega (arith, G.value_is, G.valued-is)

  pub marks_room_lem : p.mark + length r.marks ≤ length m
  marks_room_lem =
      let e = ap length marks_split in
      let f = marks_before in
      omega (arith, simp length-append at e, simp length-append at f)

  pub values-room : p.value + length r.values * 6 ≤ length v
  values-room =
      let e = ap length values_split in
      let f = values_before in
      omega (arith, simp length-append at e, simp length-append at f, each_length r.values)

  pub marks_kept : (d : List ℕ) → keep (uncovered d) (run p.mark (length r.marks) m) ≡ clear_marks d r.marks
  unfolding clear_marks
  marks_kept d = rw (marks_split) (ap (keep (uncovered d))
      (run-parts (marks_of A ++ G.gap) r.marks _ p.mark (length r.marks) marks_before refl))

  pub values_kept : (d : List ℕ)
      → keep_rows 6 (uncovered d) (length r.values) (drop p.value v) ≡ each_value (clear_values d r.values)
  unfolding clear_values
  values_kept d =
      let Y : List ℕ = values_of us ++ replicate (values_room - c.values * 6) 0 in
      ap (λ l. keep_rows 6 (uncovered d) (length r.values) (drop p.value l)) values_split
      ∙ (ap (keep_rows 6 (uncovered d) (length r.values))
      (drop_at (values_of A ++ G.gap_values) (each_value r.values ++ Y) p.value values_before)
      ∙ (ap (λ l. keep_rows 6 (uncovered d) (length r.values) (l ++ Y)) (each_flat r.values)
      ∙ (flat_keep 6 value_words id_of_value strides_value (uncovered d) r.values Y ∙ sym (each_flat _))))

  marks_after : (d : List ℕ) → marks_of (A ++ clear_row d r ∷ []) ≡ marks_of A ++ clear_marks d r.marks
  unfolding marks_of
  marks_after d = marks_of_append A (clear_row d r ∷ []) ∙ ap (marks_of A ++◌) (append-nil (clear_marks d r.marks))

  values-after : (d : List ℕ) → values_of (A ++ clear_row d r ∷ []) ≡ values_of A ++ each_value (clear_values d r.values)
  unfolding values_of
  values-after d = values_of_append A (clear_row d r ∷ []) ∙ ap (values_of A ++◌) (append-nil (each_value (clear_values d r.values)))

  fewer_marks : (d : List ℕ) → length (clear_marks d r.marks) ≤ length r.marks
  unfolding clear_marks
  fewer_marks d = keep_length (λ i. uncovered d i) r.marks

  fewer_values : (d : List ℕ) → length (clear_values d r.values) ≤ length r.values
  unfolding clear_values
  fewer_values d = keep_length (λ v. uncovered d v.id) r.values

  module _ (d : List ℕ) (to end : ℕ) (m' v' : List ℕ)
      (K : Kept p.marked (length r.marks) (clear_marks d r.marks) m to m')
      (L : Kept p.valued (length r.values * 6) (each_value (clear_values d r.values)) v end v') where
    -- the gaps behind the row
    gap' : List ℕ
    gap' = drop (length (clear_marks d r.marks)) (G.gap ++ r.marks)

    gap_values' : List ℕ
    gap_values' = drop (length (each_value (clear_values d r.values))) (G.gap_values ++ each_value r.values)

    pub row_cleared : (w : ℕ) (q : Cursor) → w ≡ with_counts (get_or h p.row 0) (to - p.marked) ((end - p.valued) / 6)
        → q ≡ record {
          row = p.row + 1;
          mark = p.mark + length r.marks;
          marked = to;
          value = p.value + length r.values * 6;
          valued = end;
        }
        → WithGap c (set h p.row w) m' v' q (A ++ clear_row d r ∷ []) us
    unfolding gap' gap_values'
    row_cleared w q e f =
        let n : to - p.marked ≡ length (clear_marks d r.marks) = omega (arith, K.next) in
        let k : (end - p.valued) / 6 ≡ length (clear_values d r.values) = omega (arith, L.next, each_length (clear_values d r.values)) in
        let o : w ≡ head_word (clear_row d r) =
        e ∙ rw (n, k, head_here) (counts_word r narrow_here.depth (clear_marks d r.marks) (clear_values d r.values)) in
        let a = ap length (marks_after d) ∙ length-append (marks_of A) (clear_marks d r.marks) in
        let b = ap length (values-after d) ∙ length-append (values_of A) (each_value (clear_values d r.values)) in
        let g = length-drop (length (clear_marks d r.marks)) (G.gap ++ r.marks) in
        let g2 = length-append G.gap r.marks in
        let i = length-drop (length (each_value (clear_values d r.values))) (G.gap_values ++ each_value r.values) in
        let i2 = length-append G.gap_values (each_value r.values) in
        let x = each_length (clear_values d r.values) in
        let y = each_length r.values in
        let fm = fewer_marks d in
        let fv = fewer_values d in
        rw f
        record {
          gap = gap';
          gap_values = gap_values';
          heads = rw (
            G.heads ∙ heads-parts A r us (replicate (heads_room - c.rows) 0),
            o,
            append_assoc A
                (clear_row d r ∷ []) us,
          )
              (set_at (heads_of A) (head_word r) (heads_of us ++ replicate (heads_room - c.rows) 0) (head_word (clear_row d r)) p.row
              (heads-length A ∙ sym G.row_is)
              ∙ sym (heads-parts A (clear_row d r) us (replicate (heads_room - c.rows) 0)));
          marks = K.table ∙ (rw (
            G.marks,
            marks_behind,
            append_assoc r.marks (marks_of us) (replicate (marks_room - c.marks) 0),
            marks_after d,
          )
              (keep_gap (marks_of A) G.gap r.marks (marks_of us ++ replicate (marks_room - c.marks) 0) (clear_marks d r.marks)
              p.marked (sym G.marked-is) (omega arith)));
          values = L.table ∙ (rw (
            G.values,
            values-behind,
            append_assoc (each_value r.values) (values_of us)
                (replicate (values_room - c.values * 6) 0),
            values-after d,
          )
              (keep_gap (values_of A) G.gap_values (each_value r.values)
              (values_of us ++ replicate (values_room - c.values * 6) 0) (each_value (clear_values d r.values)) p.valued
              (sym G.valued-is) (omega arith)));
          row_is = omega (arith, length-append A (clear_row d r ∷ []), G.row_is);
          marked-is = omega (arith, K.next, G.marked-is);
          mark-is = omega (arith, K.next, G.mark-is);
          valued-is = omega (arith, L.next, G.valued-is);
          value_is = omega (arith, L.next, G.value_is);
          rows_are = omega (arith, length-append A (clear_row d r ∷ []), G.rows_are);
          marks_are = omega (arith, G.marks_are, marks_here);
          values_are = omega (arith, G.values_are, values_here);
          rows_fit = G.rows_fit;
          marks_fit = G.marks_fit;
          values_fit = G.values_fit;
          good_before = all_append Good A (clear_row d r ∷ []) G.good_before (good_clear d r G.good_behind.0, tt);
          good_behind = G.good_behind.1;
        }
