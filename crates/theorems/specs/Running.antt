-- Rows that fit, within the limits, with each element id once, are lines that run.
-- Assumes nothing.
use Rattle.std.specs.Prelude.{ℕ, ◌+◌, ◌≤◌, ◌<◌, ◌≡◌, refl, Bool, true, false, ltb, length}
use Rattle.std.proofs.Common.{arith, sym, ap, ◌∙◌, subst, inl, inr, length-append, eq-eqb}
use mathlib.Core.List.{List, [], ◌∷◌, ◌++◌, map, append_assoc, append-nil, reverse_aux}
use Rattle.meaning.specs.Places.{Value}
use Rattle.meaning.specs.Members.{All, Has, Ascending, own, id_of_value}
use Rattle.meaning.specs.Valid.{ValidPlain}
use Rattle.meaning.specs.Sheet.{Spot, in_map, in_list, Row, row_lines, rows_lines}
use Rattle.meaning.specs.Sheet.{Line, mark_line, value_line}
use Rattle.meaning.specs.Load.{reading, Parent, root, under, parent, is_element, times, marks_in, values_in, Seen, Named, Among, Runs}
use Rattle.theorems.specs.Members.{has_right}
use Rattle.theorems.specs.LoadVerdict.{with_marks, with_values}
use Rattle.theorems.specs.Fit.{Holder, KeyOf, RowRule, FitOn}

-- what stands before a member of an ascending list is smaller
asc_before : {A : Type 0} (number : A → ℕ) (xs : List A) (x : A) (ys : List A) → Ascending number (xs ++ (x ∷ ys)) → (j : ℕ)
    → Has number j xs → j < number x
asc_before number [] x ys a j h = absurd h
asc_before number (z ∷ xs) x ys a j (inl e) = rw e (a.0 (number x) (has_right number (number x) xs (x ∷ ys) (inl refl)))
asc_before number (z ∷ xs) x ys a j (inr h) = asc_before number xs x ys a.1 j h

-- every mark is seen
abbrev pub MarksSeen : List ℕ → List Row → Type 0
MarksSeen s rs = All (λ r. (j : ℕ) → Has own j r.marks → Seen s j) rs

-- what may mark a child is seen
pub holder_seen : (s : List ℕ) (n : ℕ) (rs : List Row) (j : ℕ) → MarksSeen s rs → Holder s (parent n rs) j → Seen s j
unfolding parent
holder_seen s n [] j a h = h
holder_seen s n (r ∷ rs) j a h = go (ltb r.depth n) (λ h. holder_seen s n rs j a.1 h) h
  where
    go : (b : Bool) → (Holder s (parent n rs) j → Seen s j) → Holder s (elim b [ true ↦ under r | false ↦ parent n rs ]) j → Seen s j
    go true f h = a.0 j h
    go false f h = f h

holder_among : (s : List ℕ) (P : Parent) (j : ℕ) → Holder s P j → Among P j
holder_among s root j h = tt
holder_among s (under r) j h = h

-- The lines of one row.

run_marks : (s : List ℕ) (b : Row) (rs : List Row) (ms all : List ℕ) (ls : List Line) → b.values ≡ [] → b.marks ++ ms ≡ all
    → Ascending own all → ((j : ℕ) → Has own j ms → Seen s j × Among (parent b.depth rs) j) → length all + marks_in rs ≤ 1024
    → Runs (reading s (with_marks b all ∷ rs)) ls → Runs (reading s (b ∷ rs)) (map mark_line ms ++ ls)
unfolding marks_in
run_marks s b rs [] all ls v e a h l k = subst (λ ms. Runs (reading s (with_marks b ms ∷ rs)) ls) (sym (sym (append-nil b.marks) ∙ e)) k
run_marks s b rs (i ∷ ms) all ls v e a h l k = (
  record {
    limit = omega (arith, length-append b.marks (i ∷ ms), ap length e);
    seen = (h i (inl refl)).0;
    early = v;
    ascends = asc_before own b.marks i ms (subst (Ascending own) (sym e) a);
    among = (h i (inl refl)).1;
  },
  run_marks s (with_marks b (b.marks ++ (i ∷ []))) rs ms all ls v (append_assoc b.marks (i ∷ []) ms ∙ e) a (λ j u. h j (inr u)) l k,
)

run-values : (s : List ℕ) (b : Row) (rs : List Row) (vs all : List Value) (ls : List Line) → b.values ++ vs ≡ all
    → Ascending id_of_value all → All (λ v. ValidPlain v.val) vs → ((j : ℕ) → Has id_of_value j vs → Has own j b.marks)
    → length all + values_in rs ≤ 256
    → Runs (reading s (with_values b all ∷ rs)) ls → Runs (reading s (b ∷ rs)) (map value_line vs ++ ls)
unfolding values_in
run-values s b rs [] all ls e a y h l k =
    subst (λ vs. Runs (reading s (with_values b vs ∷ rs)) ls) (sym (sym (append-nil b.values) ∙ e)) k
run-values s b rs (v ∷ vs) all ls e a y h l k = (
  record {
    limit = omega (arith, length-append b.values (v ∷ vs), ap length e);
    valid = y.0;
    ascends = asc_before id_of_value b.values v vs (subst (Ascending id_of_value) (sym e) a);
    marked = h v.id (inl refl);
  },
  run-values s (with_values b (b.values ++ (v ∷ []))) rs vs all ls (append_assoc b.values (v ∷ []) vs ∙ e) a y.1
      (λ j u. h j (inr u)) l k,
)

-- All the rows.

-- there is room for the rows xs behind rs, and each element id stands once in both
pub record Room (s : List ℕ) (rs xs : List Row) : Type 0 where
  pub places : length rs + length xs ≤ 256
  pub marks : marks_in rs + marks_in xs ≤ 1024
  pub values : values_in rs + values_in xs ≤ 256
  pub once : (e : ℕ) → times e rs + times e xs ≤ 1
  pub known : (e : ℕ) → 0 < times e xs → Seen s e
  pub seen : MarksSeen s rs

element_once : (i : ℕ) → is_element i (in_list i) ≡ 1
element_once i = rw (eq-eqb i i refl)

pub named : (s : List ℕ) (rs : List Row) (x : Row) (xs : List Row) → Room s rs (x ∷ xs) → KeyOf x.spot → Named s rs x.spot
unfolding times
named s rs x xs m k = go x.spot refl k
  where
    go : (p : Spot) → x.spot ≡ p → KeyOf p → Named s rs p
    go (in_map j) e k = k
    go (in_list i) e k =
        let o : is_element i x.spot ≡ 1 = ap (is_element i) e ∙ element_once i in
        (m.known i (omega arith), omega (arith, m.once i))

pub moves : (s : List ℕ) (rs : List Row) (x : Row) (xs : List Row) → RowRule s x rs → Room s rs (x ∷ xs) → Room s (x ∷ rs) xs
unfolding times marks_in values_in
moves s rs x xs r m = record {
  places = omega (arith, m.places);
  marks = omega (arith, m.marks);
  values = omega (arith, m.values);
  once = λ e. omega (arith, m.once e);
  known = λ e h. m.known e (omega arith);
  seen = ((λ j u. holder_seen s x.depth rs j m.seen (r.owns.among j u)), m.seen);
}

run_row : (s : List ℕ) (rs : List Row) (x : Row) (xs : List Row) (ls : List Line) → RowRule s x rs → Room s rs (x ∷ xs)
    → Runs (reading s (x ∷ rs)) ls → Runs (reading s rs) (row_lines x ++ ls)
unfolding row_lines marks_in values_in
run_row s rs x xs ls r m k =
    let b : Row = record { depth = x.depth; spot = x.spot; map = x.map; list = x.list; marks = []; values = [] } in
    let o = r.owns in (
      record {
        limit = omega (arith, m.places);
        low = r.low;
        high = r.high;
        step = r.step;
        branch = r.branch;
        order = r.order;
        named = named s rs x xs m r.key;
      },
      subst (Runs (reading s (b ∷ rs))) (sym (append_assoc (map mark_line x.marks) (map value_line x.values) ls))
          (run_marks s b rs x.marks x.marks (map value_line x.values ++ ls) refl refl o.marks
          (λ j u. (holder_seen s x.depth rs j m.seen (o.among j u), holder_among s (parent x.depth rs) j (o.among j u)))
          (omega (arith, m.marks))
          (run-values s (with_marks b x.marks) rs x.values x.values ls refl o.values o.valid o.marked
          (omega (arith, m.values)) k)),
    )

pub run_rows : (s : List ℕ) (xs rs : List Row) (ls : List Line) → FitOn s rs xs → Room s rs xs → Runs (reading s (reverse_aux xs rs)) ls
    → Runs (reading s rs) (rows_lines xs ++ ls)
unfolding rows_lines
run_rows s [] rs ls f m k = k
run_rows s (x ∷ xs) rs ls f m k =
    subst (Runs (reading s rs)) (sym (append_assoc (row_lines x) (rows_lines xs) ls))
    (run_row s rs x xs (rows_lines xs ++ ls) f.0 m (run_rows s xs (x ∷ rs) ls f.1 (moves s rs x xs f.0 m) k))
