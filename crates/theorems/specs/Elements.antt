-- The laws of a list: changes at two elements, and insertions, commute, in whatever order its elements stand; clearing.
-- Assumes nothing.
use Rattle.std.specs.Prelude.{ℕ, ◌<◌, ◌≤◌, ◌≡◌, refl, List, ◌≢◌}
use Rattle.std.proofs.Common.{arith, sym, ap, lt-ltb, le-ltb, eq-eqb, ne_eqb}
use Rattle.meaning.specs.Places.{Place, Elements, empty, element}
use Rattle.meaning.specs.Ways.{Prev, head, after}
use Rattle.meaning.specs.Apply.{at_element, step_on, step_from, insert_after}
use Rattle.meaning.specs.Clear.{clear, clear_elements}
use Rattle.theorems.specs.Decide.{Tri, less, same, more, tri, Same, is, isnt, alike}

-- The clauses of `at_element`, `step_on`, `step_from` and `insert_after`.

pub element_empty : (k : ℕ) (f : Place → Place) → at_element k f empty ≡ empty
unfolding at_element
element_empty k f = refl

pub element_is : (k : ℕ) (f : Place → Place) (j : ℕ) (c : Place) (es : Elements) → k ≡ j
    → at_element k f (element j c es) ≡ element j (f c) es
unfolding at_element
element_is k f j c es h = rw (eq-eqb k j h, at_element)

pub element_isnt : (k : ℕ) (f : Place → Place) (j : ℕ) (c : Place) (es : Elements) → k ≢ j
    → at_element k f (element j c es) ≡ element j c (at_element k f es)
unfolding at_element
element_isnt k f j c es h = rw (ne_eqb k j h, at_element)

pub step_on_empty : (i : ℕ) (c : Place) → step_on i c empty ≡ element i c empty
unfolding step_on
step_on_empty i c = refl

pub step_on_skip : (i : ℕ) (c : Place) (j : ℕ) (x : Place) (es : Elements) → i < j
    → step_on i c (element j x es) ≡ element j x (step_on i c es)
unfolding step_on
step_on_skip i c j x es h = rw (lt-ltb i j h, step_on)

pub step_on_stop : (i : ℕ) (c : Place) (j : ℕ) (x : Place) (es : Elements) → j ≤ i
    → step_on i c (element j x es) ≡ element i c (element j x es)
unfolding step_on
step_on_stop i c j x es h = rw (le-ltb i j h, step_on)

pub step_from_empty : (e i : ℕ) (c : Place) → step_from e i c empty ≡ empty
unfolding step_from
step_from_empty e i c = refl

pub step_from-is : (e i : ℕ) (c : Place) (j : ℕ) (x : Place) (es : Elements) → e ≡ j
    → step_from e i c (element j x es) ≡ element j x (step_on i c es)
unfolding step_from
step_from-is e i c j x es h = rw (eq-eqb e j h, step_from)

pub step_from_isnt : (e i : ℕ) (c : Place) (j : ℕ) (x : Place) (es : Elements) → e ≢ j
    → step_from e i c (element j x es) ≡ element j x (step_from e i c es)
unfolding step_from
step_from_isnt e i c j x es h = rw (ne_eqb e j h, step_from)

pub insert_head : (i : ℕ) (c : Place) (es : Elements) → insert_after head i c es ≡ step_on i c es
unfolding insert_after
insert_head i c es = refl

pub insert_after_lem : (e i : ℕ) (c : Place) (es : Elements) → insert_after (after e) i c es ≡ step_from e i c es
unfolding insert_after
insert_after_lem e i c es = refl

-- Two insertions.

step_on_lt : (i : ℕ) (c : Place) (j : ℕ) (x : Place) (es : Elements) → i < j → step_on i c (step_on j x es) ≡ step_on j x (step_on i c es)
step_on_lt i c j x empty h =
    let h' : i ≤ j = omega arith in
    simp (step_on_empty, step_on_skip, step_on_stop)
step_on_lt i c j x (element k y es) h = go (tri i k) (tri j k) (step_on_lt i c j x es h)
  where
    stop : k ≤ i → step_on i c (step_on j x (element k y es)) ≡ step_on j x (step_on i c (element k y es))
    stop p =
        let q : k ≤ j = omega arith in
        let h' : i ≤ j = omega arith in
        simp (step_on_skip, step_on_stop)

    go : Tri i k → Tri j k → step_on i c (step_on j x es) ≡ step_on j x (step_on i c es)
        → step_on i c (step_on j x (element k y es)) ≡ step_on j x (step_on i c (element k y es))
    go (less p) (less q) r = simp (step_on_skip, r)
    go (less p) (same q) r = let q' : k ≤ j = omega arith in simp (step_on_skip, step_on_stop)
    go (less p) (more q) r = let q' : k ≤ j = omega arith in simp (step_on_skip, step_on_stop)
    go (same p) q r = stop (omega arith)
    go (more p) q r = stop (omega arith)

pub step_on-step_on : (i : ℕ) (c : Place) (j : ℕ) (x : Place) (es : Elements) → i ≢ j
    → step_on i c (step_on j x es) ≡ step_on j x (step_on i c es)
step_on-step_on i c j x es n = go (tri i j)
  where
    go : Tri i j → step_on i c (step_on j x es) ≡ step_on j x (step_on i c es)
    go (less h) = step_on_lt i c j x es h
    go (same e) = absurd (n e)
    go (more h) = sym (step_on_lt j x i c es h)

pub step_on-step_from : (i : ℕ) (c : Place) (e j : ℕ) (x : Place) (es : Elements) → i ≢ j → e ≢ i
    → step_on i c (step_from e j x es) ≡ step_from e j x (step_on i c es)
step_on-step_from i c e j x empty n m = simp (step_from_empty, step_on_empty, step_from_isnt)
step_on-step_from i c e j x (element k y es) n m = go (tri i k) (alike e k) (step_on-step_from i c e j x es n m)
  where
    stop : k ≤ i → Same e k → step_on i c (step_from e j x (element k y es)) ≡ step_from e j x (step_on i c (element k y es))
    stop p (is q) = simp (step_from-is, step_from_isnt, step_on_stop)
    stop p (isnt q) = simp (step_from_isnt, step_on_stop)

    go : Tri i k → Same e k → step_on i c (step_from e j x es) ≡ step_from e j x (step_on i c es)
        → step_on i c (step_from e j x (element k y es)) ≡ step_from e j x (step_on i c (element k y es))
    go (less p) (is q) r = simp (step_from-is, step_on_skip) (ap (element k y) (step_on-step_on i c j x es n))
    go (less p) (isnt q) r = simp (step_from_isnt, step_on_skip, r)
    go (same p) q r = stop (omega arith) q
    go (more p) q r = stop (omega arith) q

pub step_from-step_from : (e i : ℕ) (c : Place) (g j : ℕ) (x : Place) (es : Elements) → i ≢ j → e ≢ j → g ≢ i
    → step_from e i c (step_from g j x es) ≡ step_from g j x (step_from e i c es)
step_from-step_from e i c g j x empty n m o = simp step_from_empty
step_from-step_from e i c g j x (element k y es) n m o = go (alike e k) (alike g k) (step_from-step_from e i c g j x es n m o)
  where
    go : Same e k → Same g k → step_from e i c (step_from g j x es) ≡ step_from g j x (step_from e i c es)
        → step_from e i c (step_from g j x (element k y es)) ≡ step_from g j x (step_from e i c (element k y es))
    go (is p) (is q) r = simp (step_from-is) (ap (element k y) (step_on-step_on i c j x es n))
    go (is p) (isnt q) r = simp (step_from-is, step_from_isnt) (ap (element k y) (step_on-step_from i c g j x es n o))
    go (isnt p) (is q) r = simp (step_from-is, step_from_isnt) (ap (element k y) (sym (step_on-step_from j x e i c es (λ z. n (sym z)) m)))
    go (isnt p) (isnt q) r = simp (step_from_isnt, r)

-- an insert doesn't come after the element j
abbrev pub Other : Prev → ℕ → Type 0
Other head j = Unit {0}
Other (after e) j = e ≢ j

pub insert_insert : (p : Prev) (i : ℕ) (c : Place) (q : Prev) (j : ℕ) (x : Place) (es : Elements) → i ≢ j → Other p j → Other q i
    → insert_after p i c (insert_after q j x es) ≡ insert_after q j x (insert_after p i c es)
insert_insert head i c head j x es n m o = simp insert_head (step_on-step_on i c j x es n)
insert_insert head i c (after g) j x es n m o = simp (insert_head, insert_after_lem) (step_on-step_from i c g j x es n o)
insert_insert (after e) i c head j x es n m o =
    simp (insert_head, insert_after_lem) (sym (step_on-step_from j x e i c es (λ z. n (sym z)) m))
insert_insert (after e) i c (after g) j x es n m o = simp insert_after_lem (step_from-step_from e i c g j x es n m o)

-- Changes at elements.

pub element_element : (k : ℕ) (f : Place → Place) (j : ℕ) (g : Place → Place) (es : Elements) → k ≢ j
    → at_element k f (at_element j g es) ≡ at_element j g (at_element k f es)
element_element k f j g empty n = simp element_empty
element_element k f j g (element i c es) n = go (alike k i) (alike j i) (element_element k f j g es n)
  where
    go : Same k i → Same j i → at_element k f (at_element j g es) ≡ at_element j g (at_element k f es)
        → at_element k f (at_element j g (element i c es)) ≡ at_element j g (at_element k f (element i c es))
    go (is p) (is q) r = absurd (n (cc))
    go (is p) (isnt q) r = simp (element_is, element_isnt)
    go (isnt p) (is q) r = simp (element_is, element_isnt)
    go (isnt p) (isnt q) r = simp (element_isnt, r)

pub element_same : (k : ℕ) (f g : Place → Place) (es : Elements) → ((c : Place) → f (g c) ≡ g (f c))
    → at_element k f (at_element k g es) ≡ at_element k g (at_element k f es)
element_same k f g empty h = simp element_empty
element_same k f g (element i c es) h = go (alike k i) (element_same k f g es h)
  where
    go : Same k i → at_element k f (at_element k g es) ≡ at_element k g (at_element k f es)
        → at_element k f (at_element k g (element i c es)) ≡ at_element k g (at_element k f (element i c es))
    go (is p) r = simp (element_is, h)
    go (isnt p) r = simp (element_isnt, r)

element_step_on : (k : ℕ) (f : Place → Place) (i : ℕ) (c : Place) (es : Elements) → k ≢ i
    → at_element k f (step_on i c es) ≡ step_on i c (at_element k f es)
element_step_on k f i c empty n = simp (element_empty, step_on_empty, element_isnt)
element_step_on k f i c (element j x es) n = go (alike k j) (tri i j) (element_step_on k f i c es n)
  where
    stop : j ≤ i → Same k j → at_element k f (step_on i c (element j x es)) ≡ step_on i c (at_element k f (element j x es))
    stop p (is q) = simp (element_is, element_isnt, step_on_stop)
    stop p (isnt q) = simp (element_isnt, step_on_stop)

    go : Same k j → Tri i j → at_element k f (step_on i c es) ≡ step_on i c (at_element k f es)
        → at_element k f (step_on i c (element j x es)) ≡ step_on i c (at_element k f (element j x es))
    go (is p) (less q) r = simp (element_is, step_on_skip)
    go (isnt p) (less q) r = simp (element_isnt, step_on_skip, r)
    go p (same q) r = stop (omega arith) p
    go p (more q) r = stop (omega arith) p

element_step_from : (k : ℕ) (f : Place → Place) (e i : ℕ) (c : Place) (es : Elements) → k ≢ i
    → at_element k f (step_from e i c es) ≡ step_from e i c (at_element k f es)
element_step_from k f e i c empty n = simp (element_empty, step_from_empty)
element_step_from k f e i c (element j x es) n = go (alike k j) (alike e j) (element_step_from k f e i c es n)
  where
    go : Same k j → Same e j → at_element k f (step_from e i c es) ≡ step_from e i c (at_element k f es)
        → at_element k f (step_from e i c (element j x es)) ≡ step_from e i c (at_element k f (element j x es))
    go (is p) (is q) r = simp (element_is, step_from-is)
    go (is p) (isnt q) r = simp (element_is, step_from_isnt)
    go (isnt p) (is q) r = simp (element_isnt, step_from-is) (ap (element j x) (element_step_on k f i c es n))
    go (isnt p) (isnt q) r = simp (element_isnt, step_from_isnt, r)

pub element_insert : (k : ℕ) (f : Place → Place) (p : Prev) (i : ℕ) (c : Place) (es : Elements) → k ≢ i
    → at_element k f (insert_after p i c es) ≡ insert_after p i c (at_element k f es)
element_insert k f head i c es n = simp insert_head (element_step_on k f i c es n)
element_insert k f (after e) i c es n = simp insert_after_lem (element_step_from k f e i c es n)

-- Clearing.

pub clear_empty : (d : List ℕ) → clear_elements d empty ≡ empty
unfolding clear_elements
clear_empty d = refl

pub clear_element : (d : List ℕ) (i : ℕ) (c : Place) (es : Elements)
    → clear_elements d (element i c es) ≡ element i (clear d c) (clear_elements d es)
unfolding clear_elements
clear_element d i c es = refl

pub clear_at_element : (d : List ℕ) (k : ℕ) (f : Place → Place) (es : Elements) → ((c : Place) → clear d (f c) ≡ f (clear d c))
    → clear_elements d (at_element k f es) ≡ at_element k f (clear_elements d es)
clear_at_element d k f empty h = simp (element_empty, clear_empty)
clear_at_element d k f (element j c es) h = go (alike k j) (clear_at_element d k f es h)
  where
    go : Same k j → clear_elements d (at_element k f es) ≡ at_element k f (clear_elements d es)
        → clear_elements d (at_element k f (element j c es)) ≡ at_element k f (clear_elements d (element j c es))
    go (is p) r = simp (element_is, clear_element, h)
    go (isnt p) r = simp (element_isnt, clear_element, r)

clear_step_on : (d : List ℕ) (i : ℕ) (c : Place) (es : Elements) → clear d c ≡ c
    → clear_elements d (step_on i c es) ≡ step_on i c (clear_elements d es)
clear_step_on d i c empty h = simp (step_on_empty, clear_element, clear_empty, h)
clear_step_on d i c (element j x es) h = go (tri i j) (clear_step_on d i c es h)
  where
    go : Tri i j → clear_elements d (step_on i c es) ≡ step_on i c (clear_elements d es)
        → clear_elements d (step_on i c (element j x es)) ≡ step_on i c (clear_elements d (element j x es))
    go (less p) r = simp (step_on_skip, clear_element, r)
    go (same p) r = let q : j ≤ i = omega arith in simp (step_on_stop, clear_element, h)
    go (more p) r = let q : j ≤ i = omega arith in simp (step_on_stop, clear_element, h)

clear_step_from : (d : List ℕ) (e i : ℕ) (c : Place) (es : Elements) → clear d c ≡ c
    → clear_elements d (step_from e i c es) ≡ step_from e i c (clear_elements d es)
clear_step_from d e i c empty h = simp (step_from_empty, clear_empty)
clear_step_from d e i c (element j x es) h = go (alike e j) (clear_step_from d e i c es h)
  where
    go : Same e j → clear_elements d (step_from e i c es) ≡ step_from e i c (clear_elements d es)
        → clear_elements d (step_from e i c (element j x es)) ≡ step_from e i c (clear_elements d (element j x es))
    go (is p) r = simp (step_from-is, clear_element) (ap (element j (clear d x)) (clear_step_on d i c es h))
    go (isnt p) r = simp (step_from_isnt, clear_element, r)

pub clear_insert : (d : List ℕ) (p : Prev) (i : ℕ) (c : Place) (es : Elements) → clear d c ≡ c
    → clear_elements d (insert_after p i c es) ≡ insert_after p i c (clear_elements d es)
clear_insert d head i c es h = simp insert_head (clear_step_on d i c es h)
clear_insert d (after e) i c es h = simp insert_after_lem (clear_step_from d e i c es h)
