-- Of tables that hold a document's rows, the text is the document's sheet: `sheet-is`.
-- Assumes nothing.
use Prim.Native.Nat.{ℕ, ◌+◌, ◌-◌}
use native.Mathlib.Omega.{arith}
use mathlib.Core.Path.{◌≡◌, refl, sym, ap, ap₂, ◌∙◌, subst}
use mathlib.Core.Bool.{Bool, true, false}
use mathlib.Core.List.{List, [], ◌∷◌, ◌++◌, append_assoc, map}
use borrow.Author.Tests.{le-ltb}
use lib.Dec.{eqb}
use lib.ListN.{length, get_or, drop, replicate, length-append}
use lib.Seq.{get_or-drop, drop-drop, drop_at}
use Rattle.meaning.specs.Ascii.{ascii}
use Rattle.meaning.specs.Places.{Value, Document}
use Rattle.meaning.specs.Members.{All}
use Rattle.meaning.specs.Valid.{ValidPlain}
use Rattle.meaning.specs.Load.{marks_in, values_in}
use Rattle.meaning.specs.Sheet.{Spot, in_map, in_list, Row, rows_of, Line, place_line, mark_line, value_line, end_line, line_text, lines_text}
use Rattle.meaning.specs.Sheet.{row_lines, rows_lines, sheet_lines, sheet}
use Rattle.theorems.specs.Accepting.{marks_append, values-append}
use Rattle.theorems.specs.Sizes.{lines-append}
use Rattle.writers.specs.Texts.{texts}
use Rattle.writers.proofs.Over.{append_none}
use Rattle.writers.proofs.Runs.{texts_of}
use Rattle.lines.specs.Spots.{spot_of}
use Rattle.lines.proofs.Texts.{value_line_text}
use Rattle.lines.proofs.Words.{key_back}
use Rattle.listings.specs.Texts.{value_text}
use Rattle.listings.proofs.Valued.{Valued, value_is, valued-next}
use Rattle.tables.specs.Words.{bit, hangs, head_word, map_in, list_in, spot_words, marks_of}
use Rattle.tables.specs.Heads.{head_in, key_in}
use Rattle.tables.specs.Seek.{further}
use Rattle.tables.specs.Finds.{GoodSpot, Narrow, bit_small, side_small, depth_in_lem, hangs_in_lem, marks_in_lem, values_in_lem, after}
use Rattle.tables.specs.Standing.{first, behind}
use Rattle.tables.specs.Holding.{marks_room, Holds, four}
use Rattle.tables.specs.Parts.{At, at-behind, behind-at, narrow_at, marks_length, marks_parts}
use Rattle.tables.specs.Values.{values_stand}
use Rattle.tables.specs.Stands.{head_at_lem, key_at_lem}
use Rattle.tables.specs.declared.Counts.{Counts}
use Rattle.tables.specs.declared.Position.{Position}
use Rattle.sheet.specs.Texts.{spot_in, place_text, mark_text}
use Rattle.sheet.specs.Texts.{marks_text, values_text, head_at, row_text, rows_text, sheet_text}
use Rattle.sheet.specs.Saving.{ValidRow}
use Rattle.sheet.proofs.Rows.{row_text_lem}

one_line : (l : Line) → lines_text (l ∷ []) ≡ line_text l
unfolding lines_text
one_line l = append_none (line_text l)

-- Texts one behind the other are the lines of things, if each stands where its text is taken from.
module _ {S A : Type 0} (piece : S → List ℕ) (on : S → S) (lines : A → List Line) (many : List A → List Line)
    (Stands : S → List A → Type 0) where
  all_lines : many [] ≡ [] → ((a : A) (xs : List A) → many (a ∷ xs) ≡ lines a ++ many xs)
      → ((s : S) (a : A) (xs : List A) → Stands s (a ∷ xs) → (piece s ≡ lines_text (lines a)) × Stands (on s) xs)
      → (s : S) (xs : List A) → Stands s xs → texts piece on s (length xs) ≡ lines_text (many xs)
  unfolding lines_text
  all_lines e f =
      texts_of piece on (λ a. lines_text (lines a)) (λ xs. lines_text (many xs)) Stands (ap lines_text e)
      (λ a xs. ap lines_text (f a xs) ∙ lines-append (lines a) (many xs))

-- what stands at a place of a table
at_first : (table rest : List ℕ) (i : ℕ) → drop i table ≡ rest → get_or table i 0 ≡ get_or rest 0 0
at_first table rest i h =
    let e : i ≡ i + 0 = omega arith in
    ap (λ j. get_or table j 0) e ∙ (sym (get_or-drop i table 0 0) ∙ ap (λ l. get_or l 0 0) h)

-- Marks.
module _ (table later : List ℕ) where
  marks_lines : (i : ℕ) (ms : List ℕ) → drop i table ≡ ms ++ later → marks_text table i (length ms) ≡ lines_text (map mark_line ms)
  marks_lines =
      all_lines (mark_text table) (λ i. i + 1) (λ m. mark_line m ∷ []) (map mark_line) (λ i ms. drop i table ≡ ms ++ later) refl (λ m ms. refl)
      (λ i m ms h. (
        ap (λ m. line_text (mark_line m)) (at_first table (m ∷ (ms ++ later)) i h) ∙ sym (one_line (mark_line m)),
        sym (drop-drop 1 i table) ∙ ap (drop 1) h,
      ))

-- Values.
module _ (table : List ℕ) where
  values-lines : (i : ℕ) (vs : List Value) → Valued table i vs → values_text table i (length vs) ≡ lines_text (map value_line vs)
  values-lines =
      all_lines (value_text (ascii "value=") table) (λ i. i + 1) (λ v. value_line v ∷ []) (map value_line) (Valued table) refl (λ v vs. refl)
      (λ i v vs h. (
        value_is table (ascii "value=") h ∙ (sym (value_line_text v) ∙ sym (one_line (value_line v))),
        valued-next table h,
      ))

-- Places.
map_in_lem : (r : Row) → Narrow r → map_in (head_word r) ≡ bit r.map
map_in_lem r n = omega (arith, n.depth, side_small r.spot, bit_small r.map)

list_in_lem : (r : Row) → Narrow r → list_in (head_word r) ≡ bit r.list
list_in_lem r n = omega (arith, n.depth, side_small r.spot, bit_small r.map, bit_small r.list)

bit-back : (b : Bool) → eqb (bit b) 1 ≡ b
bit-back true = refl
bit-back false = refl

spot_back : (p : Spot) → GoodSpot p → spot_of (spot_in (hangs p) (key_in (spot_words p))) ≡ p
unfolding spot_in
spot_back (in_map k) g = rw (le-ltb 16 (length k) g.short) (ap in_map (key_back k g))
spot_back (in_list i) g = refl

-- A row of the tables, and all of them.
module _ (h k m v : List ℕ) (c : Counts) where
  -- the rows B stand behind some others, from the place s on
  record Standing (s : Position) (B : List Row) : Type 0 where
    ahead : List Row
    holds : Holds (four h k m v) c (ahead ++ B)
    here : s ≡ behind ahead
    valid : All ValidRow B

  module _ (s : Position) (r : Row) (R : List Row) (st : Standing s (r ∷ R)) where
    abbrev A : List Row
    A = st.ahead

    narrow : Narrow r
    narrow = narrow_at (four h k m v) c A r R st.holds

    at : At s A
    at = at-behind s A st.here

    head_is : head_at (four h k m v) s ≡ head_word r
    head_is = ap (λ i. get_or h i 0) at.row ∙ head_at_lem h k m v c A R r st.holds

    place_is : place_text (head_in (head_word r)) k s.row ≡ line_text (place_line r.depth r.spot r.map r.list)
    unfolding place_text
    place_is =
        rw (
          at.row,
          key_at_lem h k m v c A R r st.holds,
          depth_in_lem r narrow,
          hangs_in_lem r narrow,
          map_in_lem r narrow,
          list_in_lem r narrow,
          bit-back r.map,
          bit-back r.list,
          spot_back r.spot narrow.spot,
        )

    marks_are : marks_text m s.mark (length r.marks) ≡ lines_text (map mark_line r.marks)
    marks_are =
        let z : List ℕ = replicate (marks_room - length (marks_of (A ++ r ∷ R))) 0 in
        marks_lines m (marks_of R ++ z) s.mark r.marks
        (ap (drop s.mark) (st.holds.marks ∙ marks_parts A r R z)
        ∙ drop_at (marks_of A) (r.marks ++ (marks_of R ++ z)) s.mark (omega (arith, marks_length A, at.mark)))

    values_are : values_text v s.value (length r.values) ≡ lines_text (map value_line r.values)
    values_are = values-lines v s.value r.values (rw at.value (values_stand h k m v c A R r st.holds), st.valid.0)

    row_is : row_text (four h k m v) s ≡ lines_text (row_lines r)
    unfolding row_lines lines_text
    row_is =
        row_text_lem (four h k m v) s refl
        ∙ (rw (head_is, place_is, marks_in_lem r narrow, values_in_lem r narrow, marks_are, values_are)
        (ap (line_text (place_line r.depth r.spot r.map r.list) ++◌)
        (sym (lines-append (map mark_line r.marks) (map value_line r.values)))))

    stands_on : Standing (further s (head_at (four h k m v) s)) R
    unfolding marks_in values_in
    stands_on = record {
      ahead = A ++ (r ∷ []);
      holds = subst (Holds (four h k m v) c) (sym (append_assoc A (r ∷ []) R)) st.holds;
      here = behind-at _ (A ++ (r ∷ [])) (rw head_is (record {
        row = omega (arith, at.row, length-append A (r ∷ []));
        mark = omega (arith, at.mark, marks_in_lem r narrow, marks_append A (r ∷ []));
        value = omega (arith, at.value, values_in_lem r narrow, values-append A (r ∷ []));
      }));
      valid = st.valid.1;
    }

  rows_are : (s : Position) (B : List Row) → Standing s B → rows_text (four h k m v) s (length B) ≡ lines_text (rows_lines B)
  unfolding rows_lines
  rows_are =
      all_lines (row_text (four h k m v)) (λ s. further s (head_at (four h k m v) s)) row_lines rows_lines Standing refl (λ r R. refl)
      (λ s r R st. (row_is s r R st, stands_on s r R st))

  pub sheet-is : (D : Document) → Holds (four h k m v) c (rows_of D) → All ValidRow (rows_of D)
      → sheet_text (four h k m v) c.rows D.seen ≡ sheet D
  unfolding sheet_text sheet sheet_lines lines_text after
  sheet-is D H valid =
      let e = end_line (length (rows_of D)) in
      let st : Standing first (rows_of D) = record { ahead = []; holds = H; here = refl; valid = valid } in
      rw (H.rows_are, rows_are first (rows_of D) st, lines-append (rows_lines (rows_of D)) (e ∷ []), one_line e)
