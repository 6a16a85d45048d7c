-- Rows that fit are the rows of a sound document: a row hangs itself behind the last places of the depths above it.
-- Assumes nothing.
use Rattle.std.specs.Prelude.{ℕ, zero, suc, ◌+◌, ◌-◌, ◌<◌, ◌≡◌, refl, Bool, true, false}
use Rattle.std.proofs.Common.{arith, ◌∙◌, true≢false}
use Rattle.std.proofs.Math.Path.{sym, ap, subst}
use mathlib.Core.List.{List, [], ◌∷◌, ◌++◌, append_assoc, append-nil, reverse, reverse-cons, reverse-reverse}
use mathlib.Core.List.{reverse_aux, reverse_aux-append}
use Rattle.meaning.specs.Places.{Place, place, Children, childless, child, Elements, empty, element}
use Rattle.meaning.specs.Members.{Has, own}
use Rattle.meaning.specs.Sheet.{Spot, in_map, in_list, Row, row_of, rows, rows_children, rows_elements}
use Rattle.meaning.specs.Load.{Parent, root, under, parent, eldest, elder, last_depth, Seen, HasBranch, Follows}
use Rattle.meaning.specs.Sound.{Own, Mapped, Listed, Below, SoundPlace, SoundChildren, SoundElements}
use Rattle.theorems.specs.Fit.{Holder, RowRule, Fit, parent_here, elder_none, parent-over, on_top, deep_rows}
use Rattle.theorems.specs.Fit.{top_then}
use Rattle.theorems.specs.Saved.{own_wide}
use Rattle.theorems.specs.AtEnd.{leaf, leaf-bare, last_child, last_element, last_child_rows, last_element_rows, all_before}
use Rattle.theorems.specs.AtEnd.{last_child_sound, last_element_sound, no_key}

-- Both branches of a place, or of the root, with children of depth n.

abbrev Branches : (ℕ → Type 0) → ℕ → Bool → Bool → Children → Elements → Type 0
Branches Q n m l ks es = Mapped ks m × Listed es l × SoundChildren Q n ks × SoundElements Q n es

abbrev rows_under : ℕ → Children → Elements → List Row
rows_under n ks es = rows_children n ks ++ rows_elements n es

-- the same with the row r at the end
record Grown (Q : ℕ → Type 0) (n : ℕ) (m l : Bool) (ks : Children) (es : Elements) (r : Row) : Type 0 where
  children : Children
  elements : Elements
  rows : rows_under n children elements ≡ rows_under n ks es ++ (r ∷ [])
  sound : Branches Q n m l children elements

-- what stands outside: the parent of what hangs here, its flags, and the ids that may mark its children
record Outside (s : List ℕ) (Q : ℕ → Type 0) (n : ℕ) (m l : Bool) (P : Parent) (out : List Row) : Type 0 where
  hangs : parent n out ≡ P
  first : elder n out ≡ eldest
  last : suc (last_depth out) ≡ n
  holds : (j : ℕ) → Holder s P j → Q j
  maps : (k : List ℕ) → HasBranch P (in_map k) → m ≡ true
  lists : (i : ℕ) → HasBranch P (in_list i) → l ≡ true

abbrev whole : ℕ → Children → Elements → List Row → List Row
whole n ks es out = reverse_aux (rows_under n ks es) out

deep_under : (n : ℕ) (ks : Children) (es : Elements) (out : List Row) → parent n (whole n ks es out) ≡ parent n out
unfolding rows
deep_under n ks es out = parent-over n (rows_under n ks es) out (deep_rows (place false false [] [] ks es) n)

mapped_last : (ks : Children) (k : List ℕ) (c : Place) (m : Bool) → m ≡ true → Mapped (last_child ks k c) m
unfolding last_child
mapped_last childless k c m e = e
mapped_last (child j x ks) k c m e = e

listed_last : (es : Elements) (i : ℕ) (c : Place) (l : Bool) → l ≡ true → Listed (last_element es i c) l
unfolding last_element
listed_last empty i c l e = e
listed_last (element j x es) i c l e = e

-- a row at a spot
abbrev at : ℕ → Spot → Row → Row
at n p r = record { depth = n; spot = p; map = r.map; list = r.list; marks = r.marks; values = r.values }

-- the row hangs here: a key behind the other keys, or an element behind all
module _ (s : List ℕ) (Q : ℕ → Type 0) (m l : Bool) (P : Parent) (out : List Row) where
  body : (n : ℕ) (p : Spot) (r : Row) (ks : Children) (es : Elements) → Outside s Q n m l P out → RowRule s (at n p r) (whole n ks es out)
      → SoundPlace Q (suc n) (leaf r)
  body n p r ks es o u = (
    own_wide (Holder s P) Q r.marks r.values o.holds
        (subst (λ P. Own (Holder s P) r.marks r.values) (deep_under n ks es out ∙ o.hangs) u.owns),
    tt,
    tt,
    tt,
    tt,
  )

  hangs_under : (n : ℕ) (p : Spot) (r : Row) (ks : Children) (es : Elements) → Outside s Q n m l P out
      → RowRule s (at n p r) (whole n ks es out) → HasBranch P p
  hangs_under n p r ks es o u = subst (λ P. HasBranch P p) (deep_under n ks es out ∙ o.hangs) u.branch

  here : (n : ℕ) (p : Spot) (r : Row) (ks : Children) (es : Elements) → Outside s Q n m l P out → RowRule s (at n p r) (whole n ks es out)
      → Branches Q n m l ks es → Grown Q n m l ks es (at n p r)
  unfolding rows
  here n (in_map k) r ks empty o u b =
      let e = append-nil (rows_children n ks) in
      let f = subst (λ us. Follows (elder n (reverse_aux us out)) (in_map k)) e u.order in
      record {
        children = last_child ks k (leaf r);
        elements = empty;
        rows = append-nil _ ∙ (last_child_rows n ks k (leaf r) (leaf-bare r (suc n)) ∙ ap (◌++ (at n (in_map k) r ∷ [])) (sym e));
        sound = (
          mapped_last ks k (leaf r) m (o.maps k (hangs_under n (in_map k) r ks empty o u)),
          b.1,
          last_child_sound n Q ks k (leaf r) (all_before n Q k ks out b.2 f) u.key u.high (body n (in_map k) r ks empty o u) b.2,
          b.3,
        );
      }
  here n (in_map k) r ks (element i c es) o u b =
      absurd (no_key n k i c es (reverse_aux (rows_children n ks) out)
      (subst (λ us. Follows (elder n us) (in_map k))
      (reverse_aux-append (rows_children n ks) (rows_elements n (element i c es)) out) u.order))
  here n (in_list i) r ks es o u b = record {
    children = ks;
    elements = last_element es i (leaf r);
    rows =
        ap (rows_children n ks ++◌) (last_element_rows n es i (leaf r) (leaf-bare r (suc n)))
        ∙ sym (append_assoc (rows_children n ks) _ _);
    sound = (
      b.0,
      listed_last es i (leaf r) l (o.lists i (hangs_under n (in_list i) r ks es o u)),
      b.2,
      last_element_sound n Q es i (leaf r) u.high (body n (in_list i) r ks es o u) b.3,
    );
  }

-- A place with the row r further down.

record GrownPlace (Q : ℕ → Type 0) (n : ℕ) (c : Place) (r : Row) : Type 0 where
  grown : Place
  below : rows (suc n) grown ≡ rows (suc n) c ++ (r ∷ [])
  itself : (p : Spot) → row_of n p grown ≡ row_of n p c
  sound : SoundPlace Q (suc n) grown

-- how a row is hung under a place of depth n
abbrev Hangs : List ℕ → ℕ → Row → Type 1
Hangs s n r = (Q : ℕ → Type 0) (c : Place) (p : Spot) (rs : List Row) → RowRule s r (on_top n p c rs) → SoundPlace Q (suc n) c
    → GrownPlace Q n c r

-- into the last child: the keys stay
record GrownChildren (Q : ℕ → Type 0) (n : ℕ) (k : List ℕ) (c : Place) (ks : Children) (r : Row) : Type 0 where
  first : Place
  others : Children
  rows : rows_children n (child k first others) ≡ rows_children n (child k c ks) ++ (r ∷ [])
  keys : (j : List ℕ) → Below j (child k c ks) → Below j (child k first others)
  sound : SoundChildren Q n (child k first others)

in_child : (s : List ℕ) (n : ℕ) (r : Row) → Hangs s n r → (Q : ℕ → Type 0) (k : List ℕ) (c : Place) (ks : Children) (rs : List Row)
    → RowRule s r (reverse_aux (rows_children n (child k c ks)) rs) → SoundChildren Q n (child k c ks) → GrownChildren Q n k c ks r
unfolding rows
in_child s n r h Q k c childless rs u o =
    let g = h Q c (in_map k) rs (subst (RowRule s r) (top_then n (in_map k) c [] rs) u) o.2 in
    record {
      first = g.grown;
      others = childless;
      rows =
          ap (λ x. x ∷ (rows (suc n) g.grown ++ [])) (g.itself (in_map k))
          ∙ ap (row_of n (in_map k) c ∷◌) (append-nil _ ∙ (g.below ∙ ap (◌++ (r ∷ [])) (sym (append-nil (rows (suc n) c)))));
      keys = λ j b. b;
      sound = (o.0, o.1, g.sound, tt);
    }
in_child s n r h Q k c (child j x ks) rs u o =
    let v = subst (RowRule s r) (top_then n (in_map k) c (rows_children n (child j x ks)) rs) u in
    let t = in_child s n r h Q j x ks (on_top n (in_map k) c rs) v o.3 in
    record {
      first = c;
      others = child j t.first t.others;
      rows =
          ap (λ us. row_of n (in_map k) c ∷ (rows (suc n) c ++ us)) t.rows
          ∙ ap (row_of n (in_map k) c ∷◌) (sym (append_assoc (rows (suc n) c) _ _));
      keys = λ i b. (b.0, t.keys i b.1);
      sound = (o.0, t.keys k o.1, o.2, t.sound);
    }

-- into the last element
record GrownElements (Q : ℕ → Type 0) (n : ℕ) (i : ℕ) (c : Place) (es : Elements) (r : Row) : Type 0 where
  first : Place
  others : Elements
  rows : rows_elements n (element i first others) ≡ rows_elements n (element i c es) ++ (r ∷ [])
  sound : SoundElements Q n (element i first others)

in_element : (s : List ℕ) (n : ℕ) (r : Row) → Hangs s n r → (Q : ℕ → Type 0) (i : ℕ) (c : Place) (es : Elements) (rs : List Row)
    → RowRule s r (reverse_aux (rows_elements n (element i c es)) rs) → SoundElements Q n (element i c es) → GrownElements Q n i c es r
unfolding rows
in_element s n r h Q i c empty rs u o =
    let g = h Q c (in_list i) rs (subst (RowRule s r) (top_then n (in_list i) c [] rs) u) o.1 in
    record {
      first = g.grown;
      others = empty;
      rows =
          ap (λ x. x ∷ (rows (suc n) g.grown ++ [])) (g.itself (in_list i))
          ∙ ap (row_of n (in_list i) c ∷◌) (append-nil _ ∙ (g.below ∙ ap (◌++ (r ∷ [])) (sym (append-nil (rows (suc n) c)))));
      sound = (o.0, g.sound, tt);
    }
in_element s n r h Q i c (element j x es) rs u o =
    let v = subst (RowRule s r) (top_then n (in_list i) c (rows_elements n (element j x es)) rs) u in
    let t = in_element s n r h Q j x es (on_top n (in_list i) c rs) v o.2 in
    record {
      first = c;
      others = element j t.first t.others;
      rows =
          ap (λ us. row_of n (in_list i) c ∷ (rows (suc n) c ++ us)) t.rows
          ∙ ap (row_of n (in_list i) c ∷◌) (sym (append_assoc (rows (suc n) c) _ _));
      sound = (o.0, o.1, t.sound);
    }

-- the row hangs further down: under the last element, or if there is none under the last child
further : (s : List ℕ) (Q : ℕ → Type 0) (n : ℕ) (m l : Bool) (P : Parent) (out : List Row) (ks : Children) (es : Elements) (r : Row)
    → Hangs s n r → n < r.depth → Outside s Q n m l P out → RowRule s r (whole n ks es out) → Branches Q n m l ks es
    → Grown Q n m l ks es r
unfolding rows
further s Q n m l P out childless empty r h d o u b = absurd (omega (arith, u.step, o.last))
further s Q n m l P out (child k c ks) empty r h d o u b =
    let e = append-nil (rows_children n (child k c ks)) in
    let t = in_child s n r h Q k c ks out (subst (λ us. RowRule s r (reverse_aux us out)) e u) b.2 in
    record {
      children = child k t.first t.others;
      elements = empty;
      rows = append-nil _ ∙ (t.rows ∙ ap (◌++ (r ∷ [])) (sym e));
      sound = (b.0, b.1, t.sound, b.3);
    }
further s Q n m l P out ks (element i c es) r h d o u b =
    let v = subst (RowRule s r) (reverse_aux-append (rows_children n ks) (rows_elements n (element i c es)) out) u in
    let t = in_element s n r h Q i c es (reverse_aux (rows_children n ks) out) v b.3 in
    record {
      children = ks;
      elements = element i t.first t.others;
      rows = ap (rows_children n ks ++◌) t.rows ∙ sym (append_assoc (rows_children n ks) _ _);
      sound = (b.0, b.1, b.2, t.sound);
    }

-- A row of depth b + n, hung under a place or the root with children of depth b.

abbrev Grows : List ℕ → ℕ → Row → Type 1
Grows s b r = (Q : ℕ → Type 0) (m l : Bool) (P : Parent) (out : List Row) (ks : Children) (es : Elements) → Outside s Q b m l P out
    → RowRule s r (whole b ks es out) → Branches Q b m l ks es → Grown Q b m l ks es r

-- under a place: its own row stands just outside
hung : (s : List ℕ) (n : ℕ) (r : Row) → Grows s (suc n) r → Hangs s n r
unfolding rows
hung s n r g Q (place m l ms vs ks es) p rs u o =
    let q = row_of n p (place m l ms vs ks es) in
    let t = g (λ j. Has own j ms) m l (under q) (q ∷ rs) ks es
    (record {
      hangs = parent_here (suc n) q rs (omega arith);
      first = elder_none (suc n) q rs (omega arith);
      last = refl;
      holds = λ j h. h;
      maps = λ k h. h;
      lists = λ i h. h;
    }) u (o.1, o.2, o.3, o.4) in
    record {
      grown = place m l ms vs t.children t.elements;
      below = t.rows;
      itself = λ p. refl;
      sound = (o.0, t.sound.0, t.sound.1, t.sound.2, t.sound.3);
    }

grows : (n b : ℕ) (s : List ℕ) (r : Row) → r.depth ≡ b + n → Grows s b r
grows zero b s r d =
    let e : r.depth ≡ b = omega arith in
    subst (λ b. Grows s b r) e (λ Q m l P out ks es o u h. here s Q m l P out r.depth r.spot r ks es o u h)
grows (suc n) b s r d =
    λ Q m l P out ks es o u h. further s Q b m l P out ks es r (hung s b r (grows n (suc b) s r (omega arith))) (omega arith) o u h

-- Documents.

pub record Tree (s : List ℕ) (rs : List Row) : Type 0 where
  pub root : Children
  pub rows : rows_children 1 root ≡ reverse rs
  pub sound : SoundChildren (Seen s) 1 root

no_elements : (es : Elements) (l : Bool) → l ≡ false → Listed es l → es ≡ empty
no_elements empty l e h = refl
no_elements (element i c es) l e h = absurd (true≢false (sym h ∙ e))

root_outside : (s : List ℕ) → Outside s (Seen s) 1 true false root []
unfolding parent elder
root_outside s = record { hangs = refl; first = refl; last = refl; holds = λ j h. h; maps = λ k h. refl; lists = λ i h. absurd h }

mapped_root : (ks : Children) → Mapped ks true
mapped_root childless = tt
mapped_root (child k c ks) = refl

-- at the root there are no elements
rooted : (s : List ℕ) (r : Row) (rs : List Row) (ks qs : Children) (es : Elements) → rows_children 1 ks ≡ reverse rs
    → rows_under 1 qs es ≡ rows_under 1 ks empty ++ (r ∷ []) → Branches (Seen s) 1 true false qs es → Tree s (r ∷ rs)
unfolding rows
rooted s r rs ks qs es t e b =
    let z = no_elements es false refl b.1 in
    record {
      root = qs;
      rows =
          sym (append-nil (rows_children 1 qs))
          ∙ (ap (λ es. rows_under 1 qs es) (sym z)
          ∙ (e ∙ (ap (◌++ (r ∷ [])) (append-nil (rows_children 1 ks) ∙ t) ∙ sym (reverse-cons r rs))));
      sound = b.2;
    }

-- rows that fit are those of a sound document
pub tree : (s : List ℕ) (rs : List Row) → Fit s rs → Tree s rs
unfolding rows
tree s [] f = record { root = childless; rows = refl; sound = tt }
tree s (r ∷ rs) f =
    let t = tree s rs f.1 in
    let ks = t.root in
    let e = ap reverse (append-nil (rows_children 1 ks) ∙ t.rows) ∙ reverse-reverse rs in
    let g = grows (r.depth - 1) 1 s r (omega (arith, f.0.low)) (Seen s) true false root [] ks empty (root_outside s)
    (subst (RowRule s r) (sym e) f.0) (mapped_root ks, tt, t.sound, tt) in
    rooted s r rs ks g.children g.elements t.rows g.rows g.sound
