-- The rows of a sound document fit, each behind those before it.
-- Assumes nothing.
use Rattle.std.specs.Prelude.{ℕ, suc, ◌≤◌, ◌≡◌, refl, Bool, true}
use Rattle.std.proofs.Common.{arith, sym, ◌∙◌, subst}
use mathlib.Core.List.{List, [], ◌∷◌, reverse_aux}
use Rattle.meaning.specs.Places.{Value, Place, place, Children, childless, child, Elements, empty, element}
use Rattle.meaning.specs.Members.{Has, own}
use Rattle.meaning.specs.Sheet.{Spot, in_map, in_list, Row, row_of, rows, rows_children, rows_elements}
use Rattle.meaning.specs.Load.{Parent, root, under, parent, Elder, eldest, behind, elder, last_depth, Seen, HasBranch, Ordered, Follows}
use Rattle.meaning.specs.Sound.{Own, Mapped, Listed, Below, SoundPlace, SoundChildren, SoundElements}
use Rattle.theorems.specs.Rows.{row_depth, row_spot}
use Rattle.theorems.specs.Fit.{Holder, KeyOf, RowRule, FitOn, fit_append, parent_here, elder_none, parent-over, last-over, on_top}
use Rattle.theorems.specs.Fit.{deep_children, block_parent, block_elder, block_last, deep_less}

pub own_wide : (P Q : ℕ → Type 0) (ms : List ℕ) (vs : List Value) → ((j : ℕ) → P j → Q j) → Own P ms vs → Own Q ms vs
own_wide P Q ms vs h o = record {
  marks = o.marks;
  values = o.values;
  among = λ j u. h j (o.among j u);
  marked = o.marked;
  valid = o.valid;
}

-- an element may follow anything
follows_element : (e : Elder) (i : ℕ) → Follows e (in_list i)
follows_element eldest i = tt
follows_element (behind r) i = go r.spot
  where
    go : (p : Spot) → Ordered p (in_list i)
    go (in_map k) = tt
    go (in_list j) = tt

-- where a row of depth n may stand: under P, whose children Q may mark
record Here (s : List ℕ) (n : ℕ) (P : Parent) (Q : ℕ → Type 0) (rs : List Row) : Type 0 where
  low : 1 ≤ n
  step : n ≤ suc (last_depth rs)
  hangs : parent n rs ≡ P
  holds : (j : ℕ) → Q j → Holder s P j

-- the first row under a place, and the next one behind a block
under_place : (s : List ℕ) (n : ℕ) (p : Spot) (c : Place) (rs : List Row)
    → Here s (suc n) (under (row_of n p c)) (λ j. Has own j (row_of n p c).marks) (row_of n p c ∷ rs)
under_place s n p c rs = record {
  low = omega arith;
  step = omega (arith, row_depth n p c);
  hangs = parent_here (suc n) (row_of n p c) rs (omega (arith, row_depth n p c));
  holds = λ j h. h;
}

behind_block : (s : List ℕ) (n : ℕ) (P : Parent) (Q : ℕ → Type 0) (rs : List Row) (p : Spot) (c : Place)
    → Here s n P Q rs → Here s n P Q (on_top n p c rs)
behind_block s n P Q rs p c h = record {
  low = h.low;
  step = omega (arith, block_last n p c rs);
  hangs = block_parent n p c rs ∙ h.hangs;
  holds = h.holds;
}

rule : (s : List ℕ) (n : ℕ) (P : Parent) (Q : ℕ → Type 0) (rs : List Row) (p : Spot) (c : Place) → Here s n P Q rs → n ≤ 8
    → HasBranch P p → Follows (elder n rs) p → KeyOf p → SoundPlace Q (suc n) c → RowRule s (row_of n p c) rs
rule s n P Q rs p (place m l ms vs ks es) h d b f k o = record {
  low = h.low;
  high = d;
  step = h.step;
  branch = subst (λ P. HasBranch P p) (sym h.hangs) b;
  order = f;
  key = k;
  owns = subst (λ P. Own (Holder s P) ms vs) (sym h.hangs) (own_wide Q (Holder s P) ms vs h.holds o.0);
}

-- the first key may follow
abbrev First : Elder → Children → Type 0
First e childless = Unit {0}
First e (child k c ks) = Follows e (in_map k)

first_next : (n : ℕ) (k : List ℕ) (c : Place) (rs : List Row) (ks : Children) → Below k ks → First (elder n (on_top n (in_map k) c rs)) ks
first_next n k c rs childless b = tt
first_next n k c rs (child j x ks) b =
    subst (λ e. Follows e (in_map j)) (sym (block_elder n (in_map k) c rs))
    (subst (λ p. Ordered p (in_map j)) (sym (row_spot n (in_map k) c)) b.0)

again_mapped : (ks : Children) (m : Bool) → m ≡ true → Mapped ks m
again_mapped childless m e = tt
again_mapped (child k c ks) m e = e

-- the flag that a branch has, as the parent's row tells it
abbrev MapOf : Children → Parent → Type 0
MapOf childless P = Unit {0}
MapOf (child k c ks) P = (j : List ℕ) → HasBranch P (in_map j)

abbrev ListOf : Elements → Parent → Type 0
ListOf empty P = Unit {0}
ListOf (element i c es) P = (j : ℕ) → HasBranch P (in_list j)

map_on : (ks : Children) (P : Parent) → ((j : List ℕ) → HasBranch P (in_map j)) → MapOf ks P
map_on childless P h = tt
map_on (child k c ks) P h = h

list_on : (es : Elements) (P : Parent) → ((j : ℕ) → HasBranch P (in_list j)) → ListOf es P
list_on empty P h = tt
list_on (element i c es) P h = h

mapped_of : (ks : Children) (r : Row) → Mapped ks r.map → MapOf ks (under r)
mapped_of childless r h = tt
mapped_of (child k c ks) r h = λ j. h

listed_of : (es : Elements) (r : Row) → Listed es r.list → ListOf es (under r)
listed_of empty r h = tt
listed_of (element i c es) r h = λ j. h

first_eldest : (ks : Children) (e : Elder) → e ≡ eldest → First e ks
first_eldest childless e h = tt
first_eldest (child k c ks) e h = subst (λ e. Follows e (in_map k)) (sym h) tt

mutual
  unfolding rows

  fit_place : (c : Place) (s : List ℕ) (n : ℕ) (p : Spot) (rs : List Row) (Q : ℕ → Type 0) → SoundPlace Q (suc n) c
      → FitOn s (row_of n p c ∷ rs) (rows (suc n) c)
  fit_place (place m l ms vs ks es) s n p rs Q o =
      let r = row_of n p (place m l ms vs ks es) in
      let h = under_place s n p (place m l ms vs ks es) rs in
      let us = reverse_aux (rows_children (suc n) ks) (r ∷ rs) in
      fit_append s (rows_children (suc n) ks) (rows_elements (suc n) es) (r ∷ rs)
      (fit_children ks s (suc n) (under r) (λ j. Has own j ms) (r ∷ rs) h (mapped_of ks r o.1)
      (first_eldest ks (elder (suc n) (r ∷ rs)) (elder_none (suc n) r rs (omega arith))) o.3)
      (fit_elements es s (suc n) (under r) (λ j. Has own j ms) us
      (record {
        low = h.low;
        step = omega (
          arith,
          last-over n (rows_children (suc n) ks) (r ∷ rs)
              (deep_less n (rows_children (suc n) ks) (deep_children ks (suc n))) (omega arith),
        );
        hangs = parent-over (suc n) (rows_children (suc n) ks) (r ∷ rs) (deep_children ks (suc n)) ∙ h.hangs;
        holds = h.holds;
      })
      (listed_of es r o.2) o.4)

  fit_children : (ks : Children) (s : List ℕ) (n : ℕ) (P : Parent) (Q : ℕ → Type 0) (rs : List Row) → Here s n P Q rs → MapOf ks P
      → First (elder n rs) ks → SoundChildren Q n ks → FitOn s rs (rows_children n ks)
  fit_children childless s n P Q rs h b f o = tt
  fit_children (child k c ks) s n P Q rs h b f o = (
    rule s n P Q rs (in_map k) c h o.0.1 (b k) f o.0.0 o.2,
    fit_append s (rows (suc n) c) (rows_children n ks) (row_of n (in_map k) c ∷ rs) (fit_place c s n (in_map k) rs Q o.2)
        (fit_children ks s n P Q (on_top n (in_map k) c rs) (behind_block s n P Q rs (in_map k) c h) (map_on ks P b)
        (first_next n k c rs ks o.1) o.3),
  )

  fit_elements : (es : Elements) (s : List ℕ) (n : ℕ) (P : Parent) (Q : ℕ → Type 0) (rs : List Row) → Here s n P Q rs → ListOf es P
      → SoundElements Q n es → FitOn s rs (rows_elements n es)
  fit_elements empty s n P Q rs h b o = tt
  fit_elements (element i c es) s n P Q rs h b o = (
    rule s n P Q rs (in_list i) c h o.0 (b i) (follows_element (elder n rs) i) tt o.1,
    fit_append s (rows (suc n) c) (rows_elements n es) (row_of n (in_list i) c ∷ rs) (fit_place c s n (in_list i) rs Q o.1)
        (fit_elements es s n P Q (on_top n (in_list i) c rs) (behind_block s n P Q rs (in_list i) c h) (list_on es P b) o.2),
  )

-- the rows of a sound document fit
pub sound_fits : (s : List ℕ) (ks : Children) → SoundChildren (Seen s) 1 ks → FitOn s [] (rows_children 1 ks)
unfolding parent elder
sound_fits s ks o =
    fit_children ks s 1 root (Seen s) [] (record { low = omega arith; step = omega arith; hangs = refl; holds = λ j h. h })
    (map_on ks root (λ j. tt)) (first_eldest ks eldest refl) o
