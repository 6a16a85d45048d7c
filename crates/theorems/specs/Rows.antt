-- The rows of a document say the document: a place's rows are what stands deeper behind its own row, so equal rows are of equal trees.
-- Assumes nothing.
use Rattle.std.specs.Prelude.{ℕ, suc, ◌≤◌, ◌<◌, ◌≡◌, refl, ◌⊎◌}
use Rattle.std.proofs.Common.{arith, sym, ap, ◌∙◌, subst, inl, inr, ⊎_elim}
use mathlib.Core.List.{List, [], ◌∷◌, ◌++◌, append_assoc, append-nil, nil≢cons, head-eq_of_cons-eq, tail-eq_of_cons-eq}
use Rattle.meaning.specs.Places.{Place, place, Children, childless, child, Elements, empty, element, Document}
use Rattle.meaning.specs.Sheet.{Spot, in_map, in_list, Row, row_of, rows, rows_children, rows_elements, rows_of}

pub row_depth : (n : ℕ) (s : Spot) (c : Place) → (row_of n s c).depth ≡ n
row_depth n s (place m l ms vs ks es) = refl

pub row_spot : (n : ℕ) (s : Spot) (c : Place) → (row_of n s c).spot ≡ s
row_spot n s (place m l ms vs ks es) = refl

abbrev IsElement : Spot → Type 0
IsElement (in_map k) = ⊥
IsElement (in_list i) = Unit {0}

-- what stands behind the rows under a place with children of depth n
abbrev Lower : ℕ → List Row → Type 0
Lower n [] = Unit {0}
Lower n (r ∷ rs) = r.depth < n

-- what stands behind the map children of depth n
abbrev Past : ℕ → List Row → Type 0
Past n [] = Unit {0}
Past n (r ∷ rs) = (r.depth ≤ n) × ((r.depth < n) ⊎ IsElement r.spot)

lower_past : (n : ℕ) (R : List Row) → Lower n R → Past n R
lower_past n [] h = tt
lower_past n (r ∷ R) h = (omega arith, inl h)

past_elements : (n : ℕ) (es : Elements) (R : List Row) → Lower n R → Past n (rows_elements n es ++ R)
unfolding rows_elements
past_elements n empty R h = lower_past n R h
past_elements n (element i (place m l ms vs ks es) fs) R h = (omega arith, inr tt)

past_lower : (n : ℕ) (R : List Row) → Past n R → Lower (suc n) R
past_lower n [] h = tt
past_lower n (r ∷ R) h = omega (arith, h.0)

lower_children : (n : ℕ) (ks : Children) (R : List Row) → Past n R → Lower (suc n) (rows_children n ks ++ R)
unfolding rows_children
lower_children n childless R h = past_lower n R h
lower_children n (child k c ks) R h = omega (arith, row_depth n (in_map k) c)

lower_elements : (n : ℕ) (es : Elements) (R : List Row) → Lower n R → Lower (suc n) (rows_elements n es ++ R)
unfolding rows_elements
lower_elements n empty R h = past_lower n R (lower_past n R h)
lower_elements n (element i c es) R h = omega (arith, row_depth n (in_list i) c)

-- a row's own part
abbrev Alike : Place → Place → Type 0
Alike (place m l ms vs ks es) (place n o ns ws js fs) = (m ≡ n) × (l ≡ o) × (ms ≡ ns) × (vs ≡ ws)

alike : (n : ℕ) (s : Spot) (c : Place) (o : ℕ) (t : Spot) (x : Place) → row_of n s c ≡ row_of o t x → (s ≡ t) × Alike c x
alike n s (place m l ms vs ks es) o t (place m' l' ms' vs' ks' es') e =
    (ap (λ r. r.spot) e, (ap (λ r. r.map) e, ap (λ r. r.list) e, ap (λ r. r.marks) e, ap (λ r. r.values) e))

key_eq : (j k : List ℕ) → in_map j ≡ in_map k → j ≡ k
key_eq j k e = cc

id_eq : (i j : ℕ) → in_list i ≡ in_list j → i ≡ j
id_eq i j e = cc

-- a map child of depth n doesn't stand behind the map children
no_child : {X : Type 0} (n : ℕ) (R S : List Row) (k : List ℕ) (c : Place) → Past n R → R ≡ row_of n (in_map k) c ∷ S → X
no_child n [] S k c h e = absurd (nil≢cons e)
no_child n (r ∷ R) S k c h e =
    let p = head-eq_of_cons-eq e in
    absurd (⊎_elim
    (λ (q : r.depth < n). omega (arith, ap (λ r. r.depth) p, row_depth n (in_map k) c))
    (λ q. subst IsElement (ap (λ r. r.spot) p ∙ row_spot n (in_map k) c) q)
    h.1)

-- nor any element behind what hangs there
no_element : {X : Type 0} (n : ℕ) (R S : List Row) (i : ℕ) (c : Place) → Lower n R → R ≡ row_of n (in_list i) c ∷ S → X
no_element n [] S i c h e = absurd (nil≢cons e)
no_element n (r ∷ R) S i c h e = absurd (omega (arith, ap (λ r. r.depth) (head-eq_of_cons-eq e), row_depth n (in_list i) c))

mutual
  unfolding rows

  same_place : (c x : Place) (n : ℕ) (R S : List Row) → Lower n R → Lower n S → Alike c x → rows n c ++ R ≡ rows n x ++ S
      → (c ≡ x) × (R ≡ S)
  same_place (place m l ms vs ks es) (place m' l' ms' vs' ks' es') n R S p q a e =
      let z = sym (append_assoc (rows_children n ks) (rows_elements n es) R)
      ∙ (e ∙ append_assoc (rows_children n ks') (rows_elements n es') S) in
      let t = same_children ks ks' n _ _ (past_elements n es R p) (past_elements n es' S q) z in
      let u = same_elements es es' n R S p q t.1 in
      (cc (a.0, a.1, a.2, a.3, t.0, u.0), u.1)

  same_children : (ks qs : Children) (n : ℕ) (R S : List Row) → Past n R → Past n S
      → rows_children n ks ++ R ≡ rows_children n qs ++ S → (ks ≡ qs) × (R ≡ S)
  same_children childless childless n R S p q e = (refl, e)
  same_children childless (child j x qs) n R S p q e = no_child n R _ j x p e
  same_children (child k c ks) childless n R S p q e = no_child n S _ k c q (sym e)
  same_children (child k c ks) (child j x qs) n R S p q e =
      let a = alike n (in_map k) c n (in_map j) x (head-eq_of_cons-eq e) in
      let z = sym (append_assoc (rows (suc n) c) (rows_children n ks) R)
      ∙ (tail-eq_of_cons-eq e ∙ append_assoc (rows (suc n) x) (rows_children n qs) S) in
      let t = same_place c x (suc n) _ _ (lower_children n ks R p) (lower_children n qs S q) a.1 z in
      let u = same_children ks qs n R S p q t.1 in
      (cc (key_eq k j a.0, t.0, u.0), u.1)

  same_elements : (es fs : Elements) (n : ℕ) (R S : List Row) → Lower n R → Lower n S
      → rows_elements n es ++ R ≡ rows_elements n fs ++ S → (es ≡ fs) × (R ≡ S)
  same_elements empty empty n R S p q e = (refl, e)
  same_elements empty (element j x fs) n R S p q e = no_element n R _ j x p e
  same_elements (element i c es) empty n R S p q e = no_element n S _ i c q (sym e)
  same_elements (element i c es) (element j x fs) n R S p q e =
      let a = alike n (in_list i) c n (in_list j) x (head-eq_of_cons-eq e) in
      let z = sym (append_assoc (rows (suc n) c) (rows_elements n es) R)
      ∙ (tail-eq_of_cons-eq e ∙ append_assoc (rows (suc n) x) (rows_elements n fs) S) in
      let t = same_place c x (suc n) _ _ (lower_elements n es R p) (lower_elements n fs S q) a.1 z in
      let u = same_elements es fs n R S p q t.1 in
      (cc (id_eq i j a.0, t.0, u.0), u.1)

-- equal rows, equal documents
pub rows_once : (D E : Document) → D.seen ≡ E.seen → rows_of D ≡ rows_of E → D ≡ E
unfolding rows_of
rows_once D E s e =
    let z = append-nil (rows_children 1 D.root) ∙ (e ∙ sym (append-nil (rows_children 1 E.root))) in
    let r = (same_children D.root E.root 1 [] [] tt tt z).0 in
    λ i. record { seen = s i; root = r i }
