-- What lines that ran to the end leave: rows that fit, within the limits, with each element id once; and the lines are those of the rows.
-- Assumes nothing.
use Rattle.std.specs.Prelude.{ℕ, ◌+◌, ◌≤◌, ◌<◌, ◌≡◌, refl, Bool, true, false, cond, ◌⊎◌, eqb, length}
use Rattle.std.proofs.Common.{arith, sym, ap, ◌∙◌, subst, inl, inr, ⊎_elim, length-append, eqb-true}
use mathlib.Core.List.{List, [], ◌∷◌, ◌++◌, map, append_assoc, append-nil, reverse, reverse-cons}
use Rattle.meaning.specs.Places.{Value}
use Rattle.meaning.specs.Members.{Has, Ascending, own, id_of_value}
use Rattle.meaning.specs.Valid.{ValidPlain, ValidCounters}
use Rattle.meaning.specs.Sheet.{Spot, in_map, in_list, Row, row_lines, rows_lines}
use Rattle.meaning.specs.Sheet.{Line, sheet_line, seen_line, place_line, mark_line, value_line, end_line}
use Rattle.meaning.specs.Load.{begin, headed, reading, ended, Parent, root, under, parent, is_element, times, marks_in, values_in}
use Rattle.meaning.specs.Load.{Seen, Named, Among, PlaceRule, MarkRule, ValueRule, add_mark, add_value, Runs, next_all}
use Rattle.meaning.specs.Sound.{Own}
use Rattle.theorems.specs.Members.{all_append, has_left, has-append, asc_append}
use Rattle.theorems.specs.LoadVerdict.{ended_eq}
use Rattle.theorems.specs.Fit.{Holder, KeyOf, Fit}
use Rattle.theorems.specs.Running.{MarksSeen}

pub record Sane (s : List ℕ) (rs : List Row) : Type 0 where
  pub fit : Fit s rs
  pub places : length rs ≤ 256
  pub marks : marks_in rs ≤ 1024
  pub values : values_in rs ≤ 256
  pub once : (e : ℕ) → times e rs ≤ 1
  pub known : (e : ℕ) → 0 < times e rs → Seen s e
  pub seen : MarksSeen s rs

sane_none : (s : List ℕ) → Sane s []
unfolding times marks_in values_in
sane_none s = record {
  fit = tt;
  places = omega arith;
  marks = omega arith;
  values = omega arith;
  once = λ e. omega arith;
  known = λ e h. absurd (omega arith);
  seen = tt;
}

-- A place line.

new_row : ℕ → Spot → Bool → Bool → Row
new_row n p m l = record { depth = n; spot = p; map = m; list = l; marks = []; values = [] }

key_of_lem : (s : List ℕ) (rs : List Row) (p : Spot) → Named s rs p → KeyOf p
key_of_lem s rs (in_map k) h = h
key_of_lem s rs (in_list i) h = tt

place_once : (s : List ℕ) (rs : List Row) (p : Spot) → Named s rs p → ((e : ℕ) → times e rs ≤ 1) → (e : ℕ) → is_element e p + times e rs ≤ 1
place_once s rs (in_map k) h o e = omega (arith, o e)
place_once s rs (in_list i) h o e = go (eqb e i) refl
  where
    go : (b : Bool) → eqb e i ≡ b → cond b 1 0 + times e rs ≤ 1
    go true q = omega (arith, h.1, ap (λ n. times n rs) (eqb-true e i q))
    go false q = omega (arith, o e)

place_known : (s : List ℕ) (rs : List Row) (p : Spot) → Named s rs p → ((e : ℕ) → 0 < times e rs → Seen s e) → (e : ℕ)
    → 0 < is_element e p + times e rs → Seen s e
place_known s rs (in_map k) h o e u = o e (omega arith)
place_known s rs (in_list i) h o e u = go (eqb e i) refl u
  where
    go : (b : Bool) → eqb e i ≡ b → 0 < cond b 1 0 + times e rs → Seen s e
    go true q u = rw (eqb-true e i q) h.0
    go false q u = o e (omega arith)

sane_place : (s : List ℕ) (rs : List Row) (n : ℕ) (p : Spot) (m l : Bool) → PlaceRule s rs n p → Sane s rs → Sane s (new_row n p m l ∷ rs)
unfolding times marks_in values_in new_row
sane_place s rs n p m l r h = record {
  fit = (
    record {
      low = r.low;
      high = r.high;
      step = r.step;
      branch = r.branch;
      order = r.order;
      key = key_of_lem s rs p r.named;
      owns = record { marks = tt; values = tt; among = λ j u. absurd u; marked = λ j u. absurd u; valid = tt };
    },
    h.fit,
  );
  places = omega (arith, r.limit);
  marks = omega (arith, h.marks);
  values = omega (arith, h.values);
  once = place_once s rs p r.named h.once;
  known = place_known s rs p r.named h.known;
  seen = ((λ j u. absurd u), h.seen);
}

-- A mark line and a value line.

has_last : {A : Type 0} (number : A → ℕ) (xs : List A) (x : A) (j : ℕ) → Has number j (xs ++ (x ∷ [])) → Has number j xs ⊎ (j ≡ number x)
has_last number xs x j h = ⊎_elim (λ u. inl u) (⊎_elim (λ q. inr q) (λ u. absurd u)) (has-append number j xs (x ∷ []) h)

asc_last : {A : Type 0} (number : A → ℕ) (xs : List A) (x : A) → Ascending number xs → ((j : ℕ) → Has number j xs → j < number x)
    → Ascending number (xs ++ (x ∷ []))
asc_last number xs x a h =
    asc_append number xs (x ∷ []) a ((λ j u. absurd u), tt) (λ i j u. ⊎_elim (λ (q : j ≡ number x). rw q (h i u)) (λ v. absurd v))

holds_mark : (s : List ℕ) (P : Parent) (i : ℕ) → Seen s i → Among P i → Holder s P i
holds_mark s root i h a = h
holds_mark s (under r) i h a = a

-- the newest row with other marks and values
sane_with : (s : List ℕ) (r : Row) (rs : List Row) (ms : List ℕ) (vs : List Value) → Own (Holder s (parent r.depth rs)) ms vs
    → length ms + marks_in rs ≤ 1024 → length vs + values_in rs ≤ 256 → ((j : ℕ) → Has own j ms → Seen s j) → Sane s (r ∷ rs)
    → Sane s (record { depth = r.depth; spot = r.spot; map = r.map; list = r.list; marks = ms; values = vs } ∷ rs)
unfolding times marks_in values_in
sane_with s r rs ms vs o m v n h =
    let f = h.fit.0 in
    record {
      fit = (
        record { low = f.low; high = f.high; step = f.step; branch = f.branch; order = f.order; key = f.key; owns = o },
        h.fit.1,
      );
      places = h.places;
      marks = m;
      values = v;
      once = h.once;
      known = h.known;
      seen = (n, h.seen.1);
    }

sane_mark : (s : List ℕ) (r : Row) (rs : List Row) (i : ℕ) → MarkRule s r rs i → Sane s (r ∷ rs) → Sane s (add_mark i (r ∷ rs))
unfolding marks_in values_in
sane_mark s r rs i u h =
    let o = h.fit.0.owns in
    let P = parent r.depth rs in
    sane_with s r rs (r.marks ++ (i ∷ [])) r.values
    (record {
      marks = asc_last own r.marks i o.marks u.ascends;
      values = o.values;
      among = λ j v.
          ⊎_elim (λ w. o.among j w) (λ (q : j ≡ i). rw q (holds_mark s P i u.seen u.among)) (has_last own r.marks i j v);
      marked = λ j v. has_left own j r.marks (i ∷ []) (o.marked j v);
      valid = o.valid;
    })
    (omega (arith, u.limit, length-append r.marks (i ∷ []))) h.values
    (λ j v. ⊎_elim (λ w. h.seen.0 j w) (λ (q : j ≡ i). rw q u.seen) (has_last own r.marks i j v)) h

sane_value : (s : List ℕ) (r : Row) (rs : List Row) (v : Value) → ValueRule r rs v → Sane s (r ∷ rs) → Sane s (add_value v (r ∷ rs))
unfolding marks_in values_in
sane_value s r rs v u h =
    let o = h.fit.0.owns in
    sane_with s r rs r.marks (r.values ++ (v ∷ []))
    (record {
      marks = o.marks;
      values = asc_last id_of_value r.values v o.values u.ascends;
      among = o.among;
      marked = λ j w.
          ⊎_elim (λ x. o.marked j x) (λ (q : j ≡ v.id). rw q u.marked) (has_last id_of_value r.values v j w);
      valid = all_append (λ v. ValidPlain v.val) r.values (v ∷ []) o.valid (u.valid, tt);
    })
    h.marks (omega (arith, u.limit, length-append r.values (v ∷ []))) h.seen.0 h

-- The lines of the rows.

rows_append : (xs ys : List Row) → rows_lines (xs ++ ys) ≡ rows_lines xs ++ rows_lines ys
unfolding rows_lines
rows_append [] ys = refl
rows_append (x ∷ xs) ys = ap (row_lines x ++◌) (rows_append xs ys) ∙ sym (append_assoc (row_lines x) (rows_lines xs) (rows_lines ys))

-- of rows with the newest first
back : List Row → List Line
back rs = rows_lines (reverse rs)

back_cons : (r : Row) (rs : List Row) → back (r ∷ rs) ≡ back rs ++ row_lines r
unfolding back rows_lines
back_cons r rs =
    ap rows_lines (reverse-cons r rs) ∙ (rows_append (reverse rs) (r ∷ []) ∙ ap (rows_lines (reverse rs) ++◌) (append-nil (row_lines r)))

map_last : {A B : Type 0} (f : A → B) (xs : List A) (x : A) → map f (xs ++ (x ∷ [])) ≡ map f xs ++ (f x ∷ [])
map_last f [] x = refl
map_last f (y ∷ xs) x = ap (f y ∷◌) (map_last f xs x)

abbrev marked : ℕ → Row → Row
marked i r = record { depth = r.depth; spot = r.spot; map = r.map; list = r.list; marks = r.marks ++ (i ∷ []); values = r.values }

abbrev valued : Value → Row → Row
valued v r = record { depth = r.depth; spot = r.spot; map = r.map; list = r.list; marks = r.marks; values = r.values ++ (v ∷ []) }

mark_line_lem : (r : Row) (i : ℕ) → r.values ≡ [] → row_lines (marked i r) ≡ row_lines r ++ (mark_line i ∷ [])
unfolding row_lines
mark_line_lem r i e =
    rw e (ap (place_line r.depth r.spot r.map r.list ∷◌)
    (append-nil _ ∙ (map_last mark_line r.marks i ∙ sym (ap (◌++ (mark_line i ∷ [])) (append-nil (map mark_line r.marks))))))

value_line_lem : (r : Row) (v : Value) → row_lines (valued v r) ≡ row_lines r ++ (value_line v ∷ [])
unfolding row_lines
value_line_lem r v =
    ap (place_line r.depth r.spot r.map r.list ∷◌)
    (ap (map mark_line r.marks ++◌) (map_last value_line r.values v) ∙ sym (append_assoc (map mark_line r.marks) _ _))

-- a row that grows by a line
grown : (r q : Row) (rs : List Row) (l : Line) (ls : List Line) → row_lines q ≡ row_lines r ++ (l ∷ [])
    → back (r ∷ rs) ++ (l ∷ ls) ≡ back (q ∷ rs) ++ ls
grown r q rs l ls e =
    ap (◌++ (l ∷ ls)) (back_cons r rs)
    ∙ (append_assoc (back rs) (row_lines r) (l ∷ ls)
    ∙ (ap (back rs ++◌) (sym (append_assoc (row_lines r) (l ∷ []) ls) ∙ ap (◌++ ls) (sym e))
    ∙ (sym (append_assoc (back rs) (row_lines q) ls) ∙ ap (◌++ ls) (sym (back_cons q rs)))))

new_line : (n : ℕ) (p : Spot) (m l : Bool) (rs : List Row) (ls : List Line)
    → back rs ++ (place_line n p m l ∷ ls) ≡ back (new_row n p m l ∷ rs) ++ ls
unfolding row_lines new_row
new_line n p m l rs ls = sym (ap (◌++ ls) (back_cons (new_row n p m l) rs) ∙ append_assoc (back rs) (place_line n p m l ∷ []) ls)

-- The run.

record Left (s : List ℕ) (rs : List Row) (ls : List Line) (t : List ℕ) (us : List Row) : Type 0 where
  seen : s ≡ t
  sane : Sane s us
  lines : back rs ++ ls ≡ back us ++ (end_line (length us) ∷ [])

not_ended : {X : Type 0} (s t : List ℕ) (rs us : List Row) → reading s rs ≡ ended t us → X
not_ended s t rs us e = absurd (let z : ◌≡◌ {A = ℕ} 0 1 = cc in omega arith)

at_end : (s t : List ℕ) (rs us : List Row) (n : ℕ) (ls : List Line) → Sane s rs → n ≡ length rs → Runs (ended s rs) ls
    → next_all (ended s rs) ls ≡ ended t us → Left s rs (end_line n ∷ ls) t us
at_end s t rs us n [] h q r e =
    let z = ended_eq s t rs us e in
    record {
      seen = z.0;
      sane = subst (Sane s) z.1 h;
      lines = ap (λ n. back rs ++ (end_line n ∷ [])) q ∙ ap (λ rs. back rs ++ (end_line (length rs) ∷ [])) z.1;
    }
at_end s t rs us n (l ∷ ls) h q r e = absurd r.0

then : (s t : List ℕ) (rs ws us : List Row) (l : Line) (ls : List Line) → back rs ++ (l ∷ ls) ≡ back ws ++ ls → Left s ws ls t us
    → Left s rs (l ∷ ls) t us
then s t rs ws us l ls e h = record { seen = h.seen; sane = h.sane; lines = e ∙ h.lines }

ran : (s t : List ℕ) (ls : List Line) (rs us : List Row) → Sane s rs → Runs (reading s rs) ls → next_all (reading s rs) ls ≡ ended t us
    → Left s rs ls t us
unfolding new_row
ran s t [] rs us h r e = not_ended s t rs us e
ran s t (sheet_line ∷ ls) rs us h r e = absurd r.0
ran s t (seen_line c ∷ ls) rs us h r e = absurd r.0
ran s t (place_line n p m l ∷ ls) rs us h r e =
    then s t rs (new_row n p m l ∷ rs) us _ ls (new_line n p m l rs ls)
    (ran s t ls (new_row n p m l ∷ rs) us (sane_place s rs n p m l r.0 h) r.1 e)
ran s t (mark_line i ∷ ls) [] us h r e = absurd r.0
ran s t (mark_line i ∷ ls) (q ∷ rs) us h r e =
    then s t (q ∷ rs) (marked i q ∷ rs) us _ ls (grown q (marked i q) rs (mark_line i) ls (mark_line_lem q i r.0.early))
    (ran s t ls (marked i q ∷ rs) us (sane_mark s q rs i r.0 h) r.1 e)
ran s t (value_line v ∷ ls) [] us h r e = absurd r.0
ran s t (value_line v ∷ ls) (q ∷ rs) us h r e =
    then s t (q ∷ rs) (valued v q ∷ rs) us _ ls (grown q (valued v q) rs (value_line v) ls (value_line_lem q v))
    (ran s t ls (valued v q ∷ rs) us (sane_value s q rs v r.0 h) r.1 e)
ran s t (end_line n ∷ ls) rs us h r e = at_end s t rs us n ls h r.0 r.1 e

-- from the first line on
pub record Whole (ls : List Line) (t : List ℕ) (us : List Row) : Type 0 where
  pub seen : ValidCounters t
  pub sane : Sane t us
  pub lines : ls ≡ sheet_line ∷ seen_line t ∷ (rows_lines (reverse us) ++ (end_line (length us) ∷ []))

no_end : {X : Type 0} (t : List ℕ) (us : List Row) → begin ≡ ended t us → X
no_end t us e = absurd (let z : ◌≡◌ {A = ℕ} 0 1 = cc in omega arith)

no_end_headed : {X : Type 0} (t : List ℕ) (us : List Row) → headed ≡ ended t us → X
no_end_headed t us e = absurd (let z : ◌≡◌ {A = ℕ} 0 1 = cc in omega arith)

from_seen : (s t : List ℕ) (us : List Row) (ls : List Line) → ValidCounters s → Left s [] ls t us
    → Whole (sheet_line ∷ seen_line s ∷ ls) t us
unfolding back rows_lines
from_seen s t us ls c h = record {
  seen = subst ValidCounters h.seen c;
  sane = subst (λ s. Sane s us) h.seen h.sane;
  lines = ap (λ s. sheet_line ∷ seen_line s ∷ ls) h.seen ∙ ap (λ ls. sheet_line ∷ seen_line t ∷ ls) h.lines;
}

second : (t : List ℕ) (us : List Row) (ls : List Line) → Runs headed ls → next_all headed ls ≡ ended t us → Whole (sheet_line ∷ ls) t us
second t us [] r e = no_end_headed t us e
second t us (sheet_line ∷ ls) r e = absurd r.0
second t us (seen_line s ∷ ls) r e = from_seen s t us ls r.0 (ran s t ls [] us (sane_none s) r.1 e)
second t us (place_line n p m l ∷ ls) r e = absurd r.0
second t us (mark_line i ∷ ls) r e = absurd r.0
second t us (value_line v ∷ ls) r e = absurd r.0
second t us (end_line n ∷ ls) r e = absurd r.0

pub ran_whole : (t : List ℕ) (us : List Row) (ls : List Line) → Runs begin ls → next_all begin ls ≡ ended t us → Whole ls t us
ran_whole t us [] r e = no_end t us e
ran_whole t us (sheet_line ∷ ls) r e = second t us ls r.1 e
ran_whole t us (seen_line s ∷ ls) r e = absurd r.0
ran_whole t us (place_line n p m l ∷ ls) r e = absurd r.0
ran_whole t us (mark_line i ∷ ls) r e = absurd r.0
ran_whole t us (value_line v ∷ ls) r e = absurd r.0
ran_whole t us (end_line n ∷ ls) r e = absurd r.0
