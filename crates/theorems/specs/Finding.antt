-- What is found under a key or by an element id, after a place was changed, an element put in, or all was cleared.
-- Assumes nothing.
use Rattle.std.specs.Prelude.{ℕ, ◌≡◌, refl, Bool, true, false, List, ◌≢◌}
use Rattle.std.proofs.Common.{arith, eq-eqb, ne_eqb}
use Rattle.meaning.specs.Places.{before, beyond, order, Place, Children, childless, child, Elements, empty, element, bare}
use Rattle.meaning.specs.Ways.{Prev, head, after}
use Rattle.meaning.specs.Clear.{clear, clear_children, clear_elements}
use Rattle.meaning.specs.Apply.{at_key, at_element, step_on, step_from, insert_after}
use Rattle.meaning.specs.Judge.{look, Found, found, unknown, find}
use Rattle.theorems.specs.Decide.{Tri, less, same, more, tri, Same, is, isnt, alike}
use Rattle.theorems.specs.Keys.{TriK, less_k, same_k, more_k, tri_k, order_self, order_trans}
use Rattle.theorems.specs.Keys.{make, make_yes, make_no, key_childless, key_less, key_same, key_more, clear_childless, clear_child}
use Rattle.theorems.specs.Elements.{element_empty, element_is, element_isnt, step_on_empty, step_on_skip, step_on_stop}
use Rattle.theorems.specs.Elements.{step_from_empty, step_from-is, step_from_isnt, insert_head, insert_after_lem}
use Rattle.theorems.specs.Elements.{clear_empty, clear_element}
use Rattle.theorems.specs.Atoms.{clear_bare}

-- Under a key.

look_childless : (j : List ℕ) → look j childless ≡ bare
unfolding look
look_childless j = refl

look_less : (j k : List ℕ) (c : Place) (ks : Children) → order j k ≡ before → look j (child k c ks) ≡ bare
unfolding look
look_less j k c ks e = rw (e, look)

look_same : (j k : List ℕ) (c : Place) (ks : Children) → j ≡ k → look j (child k c ks) ≡ c
unfolding look
look_same j k c ks e = rw (e, order_self k, look)

look_more : (j k : List ℕ) (c : Place) (ks : Children) → order j k ≡ beyond → look j (child k c ks) ≡ look j ks
unfolding look
look_more j k c ks e = rw (e, look)

-- the place under k is changed so that the test h can't tell
module _ (h : Place → Bool) (k : List ℕ) (f : Place → Place) (still : (c : Place) → h (f c) ≡ h c) (j : List ℕ) where
  -- a place made before those with greater keys
  look-make : (b : Bool) (ks : Children) → (order j k ≡ before → look j ks ≡ bare) → (j ≡ k → look j ks ≡ bare)
      → h (look j (make b k f ks)) ≡ h (look j ks)
  look-make false ks before-k at-k = rw (make_no k f ks)
  look-make true ks before-k at-k = rw (make_yes k f ks) (go (tri_k j k))
    where
      go : TriK j k → h (look j (child k (f bare) ks)) ≡ h (look j ks)
      go (less_k p q) = rw (look_less j k (f bare) ks p, before-k p)
      go (same_k e) = rw (look_same j k (f bare) ks e, at-k e) (still bare)
      go (more_k p q) = rw (look_more j k (f bare) ks p)

  pub look-at_key : (b : Bool) (ks : Children) → h (look j (at_key b k f ks)) ≡ h (look j ks)
  look-at_key b childless = rw (key_childless b k f) (look-make b childless (λ p. look_childless j) (λ e. look_childless j))
  look-at_key b (child i c ks) = go (tri_k k i) (look-at_key b ks)
    where
      under : (x y : Place) (ls : Children) → h x ≡ h y → h (look j ls) ≡ h (look j ks) → TriK j i
          → h (look j (child i x ls)) ≡ h (look j (child i y ks))
      under x y ls e r (less_k p q) = rw (look_less j i x ls p, look_less j i y ks p)
      under x y ls e r (same_k q) = rw (look_same j i x ls q, look_same j i y ks q) e
      under x y ls e r (more_k p q) = rw (look_more j i x ls p, look_more j i y ks p) r

      go : TriK k i → h (look j (at_key b k f ks)) ≡ h (look j ks) → h (look j (at_key b k f (child i c ks))) ≡ h (look j (child i c ks))
      go (less_k p q) r =
          rw (key_less b k f i c ks p)
          (look-make b (child i c ks) (λ q. look_less j i c ks (order_trans j k i q p)) (λ e. look_less j i c ks (rw e p)))
      go (same_k e) r = rw (key_same b k f i c ks (rw e (order_self i))) (under (f c) c ks (still c) refl (tri_k j i))
      go (more_k p q) r = rw (key_more b k f i c ks p) (under c c (at_key b k f ks) refl r (tri_k j i))

pub look_clear : (d : List ℕ) (j : List ℕ) (ks : Children) → look j (clear_children d ks) ≡ clear d (look j ks)
look_clear d j childless = rw (clear_childless d, look_childless j, clear_bare d)
look_clear d j (child i c ks) = rw (clear_child d i c ks) (go (tri_k j i) (look_clear d j ks))
  where
    go : TriK j i → look j (clear_children d ks) ≡ clear d (look j ks)
        → look j (child i (clear d c) (clear_children d ks)) ≡ clear d (look j (child i c ks))
    go (less_k p q) r = rw (look_less j i (clear d c) (clear_children d ks) p, look_less j i c ks p, clear_bare d)
    go (same_k e) r = rw (look_same j i (clear d c) (clear_children d ks) e, look_same j i c ks e)
    go (more_k p q) r = rw (look_more j i (clear d c) (clear_children d ks) p, look_more j i c ks p) r

-- By an element id.

find_empty : (e : ℕ) → find e empty ≡ unknown
unfolding find
find_empty e = refl

find-is : (e j : ℕ) (c : Place) (es : Elements) → e ≡ j → find e (element j c es) ≡ found c
unfolding find
find-is e j c es h = rw (eq-eqb e j h, find)

find_isnt : (e j : ℕ) (c : Place) (es : Elements) → e ≢ j → find e (element j c es) ≡ find e es
unfolding find
find_isnt e j c es h = rw (ne_eqb e j h, find)

-- a test that can't tell the change of an element's place can't tell it of what is found
pub find-at_element : (h : Found → Bool) (k : ℕ) (f : Place → Place) → ((c : Place) → h (found (f c)) ≡ h (found c))
    → (e : ℕ) (es : Elements) → h (find e (at_element k f es)) ≡ h (find e es)
find-at_element h k f still e empty = rw (element_empty k f)
find-at_element h k f still e (element j c es) = go (alike k j) (alike e j) (find-at_element h k f still e es)
  where
    go : Same k j → Same e j → h (find e (at_element k f es)) ≡ h (find e es)
        → h (find e (at_element k f (element j c es))) ≡ h (find e (element j c es))
    go (is p) (is q) r = rw (element_is k f j c es p, find-is e j (f c) es q, find-is e j c es q) (still c)
    go (is p) (isnt q) r = rw (element_is k f j c es p, find_isnt e j (f c) es q, find_isnt e j c es q)
    go (isnt p) (is q) r = rw (element_isnt k f j c es p, find-is e j c (at_element k f es) q, find-is e j c es q)
    go (isnt p) (isnt q) r = rw (element_isnt k f j c es p, find_isnt e j c (at_element k f es) q, find_isnt e j c es q) r

-- two lists begin alike
find_cons : (e j : ℕ) (c : Place) (es fs : Elements) → find e es ≡ find e fs → find e (element j c es) ≡ find e (element j c fs)
find_cons e j c es fs h = go (alike e j)
  where
    go : Same e j → find e (element j c es) ≡ find e (element j c fs)
    go (is p) = rw (find-is e j c es p, find-is e j c fs p)
    go (isnt p) = rw (find_isnt e j c es p, find_isnt e j c fs p) h

find-step_on : (e i : ℕ) (c : Place) (es : Elements) → e ≢ i → find e (step_on i c es) ≡ find e es
find-step_on e i c empty n = rw (step_on_empty i c) (find_isnt e i c empty n)
find-step_on e i c (element j x es) n = go (tri i j) (find-step_on e i c es n)
  where
    go : Tri i j → find e (step_on i c es) ≡ find e es → find e (step_on i c (element j x es)) ≡ find e (element j x es)
    go (less p) r = rw (step_on_skip i c j x es p) (find_cons e j x (step_on i c es) es r)
    go (same p) r = rw (step_on_stop i c j x es (omega arith)) (find_isnt e i c (element j x es) n)
    go (more p) r = rw (step_on_stop i c j x es (omega arith)) (find_isnt e i c (element j x es) n)

find-step_from : (e g i : ℕ) (c : Place) (es : Elements) → e ≢ i → find e (step_from g i c es) ≡ find e es
find-step_from e g i c empty n = rw (step_from_empty g i c)
find-step_from e g i c (element j x es) n = go (alike g j) (find-step_from e g i c es n)
  where
    go : Same g j → find e (step_from g i c es) ≡ find e es → find e (step_from g i c (element j x es)) ≡ find e (element j x es)
    go (is p) r = rw (step_from-is g i c j x es p) (find_cons e j x (step_on i c es) es (find-step_on e i c es n))
    go (isnt p) r = rw (step_from_isnt g i c j x es p) (find_cons e j x (step_from g i c es) es r)

-- an element put in is not another one
pub find_insert : (e : ℕ) (p : Prev) (i : ℕ) (c : Place) (es : Elements) → e ≢ i → find e (insert_after p i c es) ≡ find e es
find_insert e head i c es n = rw (insert_head i c es) (find-step_on e i c es n)
find_insert e (after g) i c es n = rw (insert_after_lem g i c es) (find-step_from e g i c es n)

abbrev pub on_found : (Place → Place) → Found → Found
on_found f (found c) = found (f c)
on_found f unknown = unknown

pub find_clear : (d : List ℕ) (e : ℕ) (es : Elements) → find e (clear_elements d es) ≡ on_found (clear d) (find e es)
find_clear d e empty = rw (clear_empty d, find_empty e)
find_clear d e (element j c es) = rw (clear_element d j c es) (go (alike e j) (find_clear d e es))
  where
    go : Same e j → find e (clear_elements d es) ≡ on_found (clear d) (find e es)
        → find e (element j (clear d c) (clear_elements d es)) ≡ on_found (clear d) (find e (element j c es))
    go (is p) r = rw (find-is e j (clear d c) (clear_elements d es) p, find-is e j c es p)
    go (isnt p) r = rw (find_isnt e j (clear d c) (clear_elements d es) p, find_isnt e j c es p) r
