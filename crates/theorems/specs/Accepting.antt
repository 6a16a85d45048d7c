-- Demand 3, the sheet: a text is accepted exactly if it is the sheet of a sound document within the limits. So loading a saved sheet gives
-- the document back, no other spelling of it is accepted, and documents are equal exactly when their sheets are.
-- Assumes nothing.
use Rattle.std.specs.Prelude.{ℕ, suc, ◌+◌, ◌≤◌, ◌≡◌, refl, Bool, true, ◌&&◌, leb, length}
use Rattle.std.proofs.Common.{arith, sym, ap, ap₂, ◌∙◌, subst, length-append, leb-true, le-leb}
use mathlib.Core.List.{List, [], ◌∷◌, ◌++◌, reverse, reverse-cons, reverse-reverse}
use Rattle.std.proofs.lemmas.List.{length-reverse}
use Rattle.meaning.specs.Places.{Value, Place, place, Children, childless, child, Elements, empty, element, Document}
use Rattle.meaning.specs.Limits.{Size, plus, nothing, size, size_children, size_elements, within, fits}
use Rattle.meaning.specs.Sheet.{Spot, in_map, in_list, Row, row_of, rows, rows_children, rows_elements, rows_of, rows_lines}
use Rattle.meaning.specs.Sheet.{sheet_line, seen_line, end_line, lines_text, sheet_lines, sheet}
use Rattle.meaning.specs.Load.{begin, reading, times, marks_in, values_in, Seen, Runs, Accepted}
use Rattle.meaning.specs.Sound.{Sound, SoundChildren}
use Rattle.meaning.specs.Receive.{Terminal}
use Rattle.meaning.specs.Promises.{Loads}
use Rattle.meaning.specs.Answers.{Loaded as Answered}
use Rattle.theorems.specs.Invariant.{Steady, steady_loads}
use Rattle.theorems.specs.Decide.{and_left, and_right}
use Rattle.theorems.specs.Rows.{rows_once}
use Rattle.theorems.specs.LoadVerdict.{says_document, accepted_once}
use Rattle.theorems.specs.Saved.{sound_fits}
use Rattle.theorems.specs.Running.{Room, run_rows}
use Rattle.theorems.specs.Ran.{Whole, ran_whole}
use Rattle.theorems.specs.Taken.{Tree, tree}

-- The size of a document is that of its rows.

pub record Sizes (z : Size) (rs : List Row) : Type 0 where
  pub places : z.places ≡ length rs
  pub marks : z.marks ≡ marks_in rs
  pub values : z.values ≡ values_in rs

pub marks_append : (xs ys : List Row) → marks_in (xs ++ ys) ≡ marks_in xs + marks_in ys
unfolding marks_in
marks_append [] ys = omega arith
marks_append (x ∷ xs) ys = omega (arith, marks_append xs ys)

pub values-append : (xs ys : List Row) → values_in (xs ++ ys) ≡ values_in xs + values_in ys
unfolding values_in
values-append [] ys = omega arith
values-append (x ∷ xs) ys = omega (arith, values-append xs ys)

times-append : (e : ℕ) (xs ys : List Row) → times e (xs ++ ys) ≡ times e xs + times e ys
unfolding times
times-append e [] ys = omega arith
times-append e (x ∷ xs) ys = omega (arith, times-append e xs ys)

sizes_append : (y z : Size) (xs ys : List Row) → Sizes y xs → Sizes z ys → Sizes (plus y z) (xs ++ ys)
sizes_append y z xs ys p q = record {
  places = omega (arith, length-append xs ys, p.places, q.places);
  marks = omega (arith, marks_append xs ys, p.marks, q.marks);
  values = omega (arith, values-append xs ys, p.values, q.values);
}

-- a place's own row
sizes_row : (n : ℕ) (p : Spot) (m l : Bool) (ms : List ℕ) (vs : List Value) (ks : Children) (es : Elements) (z : Size) (rs : List Row)
    → Sizes z rs → Sizes (plus (record { places = 1; marks = length ms; values = length vs }) z) (row_of n p (place m l ms vs ks es) ∷ rs)
unfolding marks_in values_in
sizes_row n p m l ms vs ks es z rs h = record {
  places = omega (arith, h.places);
  marks = omega (arith, h.marks);
  values = omega (arith, h.values);
}

no_size : Sizes nothing []
unfolding marks_in values_in
no_size = record { places = refl; marks = refl; values = refl }

mutual
  unfolding size rows

  size_place : (c : Place) (n : ℕ) (p : Spot) → Sizes (size c) (row_of n p c ∷ rows (suc n) c)
  size_place (place m l ms vs ks es) n p =
      sizes_row n p m l ms vs ks es _ _ (sizes_append _ _ _ _ (size_children_lem ks (suc n)) (size_elements_lem es (suc n)))

  pub size_children_lem : (ks : Children) (n : ℕ) → Sizes (size_children ks) (rows_children n ks)
  size_children_lem childless n = no_size
  size_children_lem (child k c ks) n =
      sizes_append (size c) (size_children ks) (row_of n (in_map k) c ∷ rows (suc n) c) (rows_children n ks) (size_place c n (in_map k))
      (size_children_lem ks n)

  size_elements_lem : (es : Elements) (n : ℕ) → Sizes (size_elements es) (rows_elements n es)
  size_elements_lem empty n = no_size
  size_elements_lem (element i c es) n =
      sizes_append (size c) (size_elements es) (row_of n (in_list i) c ∷ rows (suc n) c) (rows_elements n es) (size_place c n (in_list i))
      (size_elements_lem es n)

-- the limits, of a document's rows
pub record Limits (rs : List Row) : Type 0 where
  pub places : length rs ≤ 256
  pub marks : marks_in rs ≤ 1024
  pub values : values_in rs ≤ 256

pub fits_limits : (D : Document) → fits D ≡ true → Limits (rows_of D)
unfolding fits within rows_of
fits_limits D e =
    let z = size_children_lem D.root 1 in
    let y = size_children D.root in
    let a = and_left (leb y.places 256 && leb y.marks 1024) (leb y.values 256) e in
    record {
      places = omega (arith, z.places, leb-true y.places 256 (and_left (leb y.places 256) _ a));
      marks = omega (arith, z.marks, leb-true y.marks 1024 (and_right (leb y.places 256) _ a));
      values = omega (arith, z.values, leb-true y.values 256 (and_right (leb y.places 256 && leb y.marks 1024) _ e));
    }

limits_fit : (D : Document) → Limits (rows_of D) → fits D ≡ true
unfolding fits within rows_of
limits_fit D h =
    let z = size_children_lem D.root 1 in
    let y = size_children D.root in
    rw (
      le-leb y.places 256 (omega (arith, z.places, h.places)),
      le-leb y.marks 1024 (omega (arith, z.marks, h.marks)),
      le-leb y.values 256 (omega (arith, z.values, h.values)),
    )

-- A sound document's sheet is accepted.

end_runs : (s : List ℕ) (rs : List Row) (n : ℕ) → n ≡ length rs → Runs (reading s rs) (end_line n ∷ [])
end_runs s rs n e = (e, tt)

pub sound_room : (D : Document) → Sound D → fits D ≡ true → Room D.seen [] (rows_of D)
unfolding times marks_in values_in
sound_room D s f =
    let l = fits_limits D f in
    record {
      places = omega (arith, l.places);
      marks = omega (arith, l.marks);
      values = omega (arith, l.values);
      once = λ e. omega (arith, s.once e);
      known = s.known;
      seen = tt;
    }

sound_runs : (D : Document) → Sound D → fits D ≡ true → Runs begin (sheet_lines D)
unfolding sheet_lines rows_of
sound_runs D s f =
    let xs = rows_of D in (
      tt,
      (
        s.seen,
        run_rows D.seen xs [] (end_line (length xs) ∷ []) (sound_fits D.seen D.root s.places) (sound_room D s f)
            (end_runs D.seen (reverse xs) (length xs) (sym (length-reverse xs))),
      ),
    )

-- loading the sheet of a sound document gives that document
pub sheet_accepted : (D : Document) → Sound D → fits D ≡ true → Accepted (sheet D) D
unfolding sheet
sheet_accepted D s f = record { lines = sheet_lines D; spells = refl; runs = sound_runs D s f; says = says_document D }

-- What is accepted is the sheet of the document that it says, and that document is sound.

sum-reverse : (f : List Row → ℕ) → ((xs ys : List Row) → f (xs ++ ys) ≡ f xs + f ys) → (xs : List Row) → f (reverse xs) ≡ f xs
sum-reverse f h [] = refl
sum-reverse f h (x ∷ xs) =
    ap f (reverse-cons x xs) ∙ (h (reverse xs) (x ∷ []) ∙ omega (arith, sum-reverse f h xs, h (x ∷ []) xs))

pub record Loaded (text : List ℕ) (D : Document) : Type 0 where
  pub sound : Sound D
  pub fits : fits D ≡ true
  pub spells : text ≡ sheet D

rebuilt : (D : Document) (us : List Row) → rows_of D ≡ reverse us → Tree D.seen us → Whole (sheet_lines D) D.seen us → (text : List ℕ)
    → text ≡ lines_text (sheet_lines D) → Loaded text D
unfolding sheet rows_of
rebuilt D us e t w text z =
    let a = w.sane in
    let E : Document = record { seen = D.seen; root = t.root } in
    let q = rows_once E D refl (t.rows ∙ sym e) in
    record {
      sound = record {
        seen = w.seen;
        places = subst (λ E. SoundChildren (Seen D.seen) 1 E.root) q t.sound;
        once = λ i. omega (arith, ap (times i) e, sum-reverse (times i) (times-append i) us, a.once i);
        known = λ i h. a.known i (omega (arith, ap (times i) e, sum-reverse (times i) (times-append i) us));
      };
      fits = limits_fit D (record {
        places = omega (arith, ap length e, length-reverse us, a.places);
        marks = omega (arith, ap marks_in e, sum-reverse marks_in marks_append us, a.marks);
        values = omega (arith, ap values_in e, sum-reverse values_in values-append us, a.values);
      });
      spells = z;
    }

pub accepted_sheet : (text : List ℕ) (D : Document) → Accepted text D → Loaded text D
unfolding sheet_lines
accepted_sheet text D a =
    let us = reverse (rows_of D) in
    let w = ran_whole D.seen us a.lines a.runs a.says in
    let r = reverse-reverse (rows_of D) in
    let n : length us ≡ length (rows_of D) = length-reverse (rows_of D) in
    let z : a.lines ≡ sheet_lines D = w.lines ∙ ap₂ (λ xs n. sheet_line ∷ seen_line D.seen ∷ (rows_lines xs ++ (end_line n ∷ []))) r n in
    rebuilt D us (sym r) (tree D.seen us w.sane.fit) (subst (λ ls. Whole ls D.seen us) z w) text (a.spells ∙ ap lines_text z)

-- two sound documents within the limits are equal exactly when their sheets are
pub sheet_once : (D E : Document) → Sound D → fits D ≡ true → Sound E → fits E ≡ true → sheet D ≡ sheet E → D ≡ E
sheet_once D E s f t g e = accepted_once (sheet D) D E (sheet_accepted D s f) (subst (λ x. Accepted x E) (sym e) (sheet_accepted E t g))

-- whatever a terminal loads, it satisfies what every terminal does
pub steady_load : (T : Terminal) (bytes : List ℕ) (answer : Answered) (exit : Terminal) → Loads T bytes answer exit → Steady T → Steady exit
steady_load T bytes answer exit p s =
    steady_loads T bytes answer exit (λ D a. let l = accepted_sheet bytes D a in (l.sound, l.fits)) p s
