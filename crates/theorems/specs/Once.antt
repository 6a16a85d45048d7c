-- How often an element id stands in a document: a tally over its places, which is what the sheet's rows count. An operation adds at most
-- one, for its own id, and nothing for another.
-- Assumes nothing.
use Rattle.std.specs.Prelude.{ℕ, suc, ◌+◌, ◌≤◌, ◌≡◌, refl, Bool, true, false, cond, List, [], ◌∷◌, ◌++◌, eqb}
use Rattle.std.proofs.Common.{arith}
use Rattle.meaning.specs.Places.{Plain, Document}
use Rattle.meaning.specs.Places.{Place, place, bare, Children, childless, child, Elements, empty, element}
use Rattle.meaning.specs.Ways.{Assigned, plain, empty_map, empty_list, Prev, head, after}
use Rattle.meaning.specs.Ways.{Way, assign, delete, insert, into_map, into_list, Operation, deletes, makes}
use Rattle.meaning.specs.Clear.{clear, clear_children, clear_elements}
use Rattle.meaning.specs.Apply.{mark, drop_values, add_value, on_map, on_list, give, at_key, at_element, step_on, step_from, insert_after}
use Rattle.meaning.specs.Apply.{passing, run, change}
use Rattle.meaning.specs.Sheet.{Spot, in_map, in_list, Row, row_of, rows, rows_children, rows_elements, rows_of}
use Rattle.meaning.specs.Load.{is_element, times}
use Rattle.theorems.specs.Decide.{Tri, less, same, more, tri, Same, is, isnt, alike}
use Rattle.theorems.specs.Keys.{TriK, less_k, same_k, more_k, tri_k, order_self}
use Rattle.theorems.specs.Keys.{make, make_yes, make_no, key_childless, key_less, key_same, key_more}
use Rattle.theorems.specs.Elements.{element_empty, element_is, element_isnt, step_on_empty, step_on_skip, step_on_stop}
use Rattle.theorems.specs.Elements.{step_from_empty, step_from-is, step_from_isnt, insert_head, insert_after_lem}
use Rattle.theorems.specs.Rows.{row_spot}

abbrev pub one : ℕ → ℕ → ℕ
one e i = cond (eqb e i) 1 0

abbrev mutual
  pub tally : ℕ → Place → ℕ
  tally e (place m l ms vs ks es) = tally_children e ks + tally_elements e es

  pub tally_children : ℕ → Children → ℕ
  tally_children e childless = 0
  tally_children e (child k c ks) = tally e c + tally_children e ks

  pub tally_elements : ℕ → Elements → ℕ
  tally_elements e empty = 0
  tally_elements e (element i c es) = one e i + (tally e c + tally_elements e es)

-- The rows.

pub times-append : (e : ℕ) (xs ys : List Row) → times e (xs ++ ys) ≡ times e xs + times e ys
unfolding times
times-append e [] ys = omega arith
times-append e (x ∷ xs) ys = omega (arith, times-append e xs ys)

times_row : (e n : ℕ) (s : Spot) (c : Place) (rs : List Row) → times e (row_of n s c ∷ rs) ≡ is_element e s + times e rs
unfolding times
times_row e n s c rs = rw (row_spot n s c)

mutual
  unfolding rows times

  times_rows : (e n : ℕ) (c : Place) → times e (rows n c) ≡ tally e c
  times_rows e n (place m l ms vs ks es) =
      omega (arith, times-append e (rows_children n ks) (rows_elements n es), times_children e n ks, times_elements e n es)

  pub times_children : (e n : ℕ) (ks : Children) → times e (rows_children n ks) ≡ tally_children e ks
  times_children e n childless = refl
  times_children e n (child k c ks) =
      let rest = rows (suc n) c ++ rows_children n ks in
      let first : times e (row_of n (in_map k) c ∷ rest) ≡ 0 + times e rest = times_row e n (in_map k) c rest in
      omega (arith, first, times-append e (rows (suc n) c) (rows_children n ks), times_rows e (suc n) c, times_children e n ks)

  times_elements : (e n : ℕ) (es : Elements) → times e (rows_elements n es) ≡ tally_elements e es
  times_elements e n empty = refl
  times_elements e n (element i c es) =
      let rest = rows (suc n) c ++ rows_elements n es in
      let first : times e (row_of n (in_list i) c ∷ rest) ≡ one e i + times e rest = times_row e n (in_list i) c rest in
      omega (arith, first, times-append e (rows (suc n) c) (rows_elements n es), times_rows e (suc n) c, times_elements e n es)

-- the count over the sheet's rows is the tally
pub times_tally : (e : ℕ) (D : Document) → times e (rows_of D) ≡ tally_children e D.root
unfolding rows_of
times_tally e D = times_children e 1 D.root

-- What is done at a place.

mutual
  unfolding clear

  tally_clear : (e : ℕ) (d : List ℕ) (c : Place) → tally e (clear d c) ≡ tally e c
  tally_clear e d (place m l ms vs ks es) = cc (children_clear e d ks, elements_clear e d es)

  children_clear : (e : ℕ) (d : List ℕ) (ks : Children) → tally_children e (clear_children d ks) ≡ tally_children e ks
  children_clear e d childless = refl
  children_clear e d (child k c ks) = cc (tally_clear e d c, children_clear e d ks)

  elements_clear : (e : ℕ) (d : List ℕ) (es : Elements) → tally_elements e (clear_elements d es) ≡ tally_elements e es
  elements_clear e d empty = refl
  elements_clear e d (element i c es) = cc (tally_clear e d c, elements_clear e d es)

tally_mark : (e i : ℕ) (c : Place) → tally e (mark i c) ≡ tally e c
unfolding mark
tally_mark e i (place m l ms vs ks es) = refl

tally_drop : (e : ℕ) (d : List ℕ) (c : Place) → tally e (drop_values d c) ≡ tally e c
unfolding drop_values
tally_drop e d (place m l ms vs ks es) = refl

tally_add : (e i : ℕ) (v : Plain) (c : Place) → tally e (add_value i v c) ≡ tally e c
unfolding add_value
tally_add e i v (place m l ms vs ks es) = refl

tally_passing : (e i : ℕ) (w : Way) (c : Place) → tally e (passing i w c) ≡ tally e c
unfolding passing
tally_passing e i w c = go (deletes w)
  where
    go : (b : Bool) → tally e (cond b c (mark i c)) ≡ tally e c
    go true = refl
    go false = tally_mark e i c

tally_map : (e n : ℕ) (g : Children → Children) → ((ks : Children) → tally_children e (g ks) ≤ tally_children e ks + n)
    → (c : Place) → tally e (on_map g c) ≤ tally e c + n
unfolding on_map
tally_map e n g h (place m l ms vs ks es) = omega (arith, h ks)

tally_list : (e n : ℕ) (g : Elements → Elements) → ((es : Elements) → tally_elements e (g es) ≤ tally_elements e es + n)
    → (c : Place) → tally e (on_list g c) ≤ tally e c + n
unfolding on_list
tally_list e n g h (place m l ms vs ks es) = omega (arith, h es)

tally_give : (e i : ℕ) (d : List ℕ) (a : Assigned) (c : Place) → tally e (give i d a c) ≤ tally e c
unfolding give
tally_give e i d (plain v) c =
    omega (arith, tally_add e i v (drop_values d (mark i c)), tally_drop e d (mark i c), tally_mark e i c)
tally_give e i d empty_map c =
    let same = tally_map e 0 (λ ks. ks) (λ ks. omega arith) (mark i (clear d c)) in
    omega (arith, same, tally_mark e i (clear d c), tally_clear e d c)
tally_give e i d empty_list c =
    let same = tally_list e 0 (λ es. es) (λ es. omega arith) (mark i (clear d c)) in
    omega (arith, same, tally_mark e i (clear d c), tally_clear e d c)

-- What is done under a branch.

tally_make : (e n : ℕ) (b : Bool) (k : List ℕ) (f : Place → Place) (ks : Children) → tally e (f bare) ≤ tally e bare + n
    → tally_children e (make b k f ks) ≤ tally_children e ks + n
tally_make e n true k f ks h = rw (make_yes k f ks) (omega arith)
tally_make e n false k f ks h = rw (make_no k f ks) (omega arith)

tally_at_key : (e n : ℕ) (b : Bool) (k : List ℕ) (f : Place → Place) → ((c : Place) → tally e (f c) ≤ tally e c + n)
    → (ks : Children) → tally_children e (at_key b k f ks) ≤ tally_children e ks + n
tally_at_key e n b k f h childless = rw (key_childless b k f) (tally_make e n b k f childless (h bare))
tally_at_key e n b k f h (child j c ks) = go (tri_k k j) (tally_at_key e n b k f h ks)
  where
    go : TriK k j → tally_children e (at_key b k f ks) ≤ tally_children e ks + n
        → tally_children e (at_key b k f (child j c ks)) ≤ tally_children e (child j c ks) + n
    go (less_k p q) r = rw (key_less b k f j c ks p) (tally_make e n b k f (child j c ks) (h bare))
    go (same_k q) r = rw (key_same b k f j c ks (rw q (order_self j))) (omega (arith, h c))
    go (more_k p q) r = rw (key_more b k f j c ks p) (omega arith)

tally_at_element : (e n k : ℕ) (f : Place → Place) → ((c : Place) → tally e (f c) ≤ tally e c + n) → (es : Elements)
    → tally_elements e (at_element k f es) ≤ tally_elements e es + n
tally_at_element e n k f h empty = rw (element_empty k f) (omega arith)
tally_at_element e n k f h (element j c es) = go (alike k j) (tally_at_element e n k f h es)
  where
    go : Same k j → tally_elements e (at_element k f es) ≤ tally_elements e es + n
        → tally_elements e (at_element k f (element j c es)) ≤ tally_elements e (element j c es) + n
    go (is q) r = rw (element_is k f j c es q) (omega (arith, h c))
    go (isnt q) r = rw (element_isnt k f j c es q) (omega arith)

module _ (e i : ℕ) (c : Place) (h : tally e c ≡ 0) where
  tally_step_on : (es : Elements) → tally_elements e (step_on i c es) ≤ tally_elements e es + one e i
  tally_step_on empty = rw (step_on_empty i c) (omega arith)
  tally_step_on (element j x es) = go (tri i j) (tally_step_on es)
    where
      go : Tri i j → tally_elements e (step_on i c es) ≤ tally_elements e es + one e i
          → tally_elements e (step_on i c (element j x es)) ≤ tally_elements e (element j x es) + one e i
      go (less q) r = rw (step_on_skip i c j x es q) (omega arith)
      go (same q) r = rw (step_on_stop i c j x es (omega arith)) (omega arith)
      go (more q) r = rw (step_on_stop i c j x es (omega arith)) (omega arith)

  tally_step_from : (g : ℕ) (es : Elements) → tally_elements e (step_from g i c es) ≤ tally_elements e es + one e i
  tally_step_from g empty = rw (step_from_empty g i c) (omega arith)
  tally_step_from g (element j x es) = go (alike g j) (tally_step_from g es)
    where
      go : Same g j → tally_elements e (step_from g i c es) ≤ tally_elements e es + one e i
          → tally_elements e (step_from g i c (element j x es)) ≤ tally_elements e (element j x es) + one e i
      go (is q) r = rw (step_from-is g i c j x es q) (omega (arith, tally_step_on es))
      go (isnt q) r = rw (step_from_isnt g i c j x es q) (omega arith)

  tally_insert : (p : Prev) (es : Elements) → tally_elements e (insert_after p i c es) ≤ tally_elements e es + one e i
  tally_insert head es = rw (insert_head i c es) (tally_step_on es)
  tally_insert (after g) es = rw (insert_after_lem g i c es) (tally_step_from g es)

tally_run : (e i : ℕ) (d : List ℕ) (w : Way) (c : Place) → tally e (run i d w c) ≤ tally e c + one e i
unfolding run
tally_run e i d (assign a) c = omega (arith, tally_give e i d a c)
tally_run e i d delete c = omega (arith, tally_clear e d c)
tally_run e i d (insert p a) c =
    let new : tally e (give i d a bare) ≡ 0 = omega (arith, tally_give e i d a bare) in
    let list = tally_list e (one e i) (insert_after p i (give i d a bare)) (tally_insert e i (give i d a bare) new p) (mark i c) in
    omega (arith, tally_mark e i c, list)
tally_run e i d (into_map k w) c =
    let f = run i d w in
    let map = tally_map e (one e i) (at_key (makes w) k f) (λ ks. tally_at_key e (one e i) (makes w) k f (λ x. tally_run e i d w x) ks) in
    omega (arith, tally_passing e i w c, map (passing i w c))
tally_run e i d (into_list k w) c =
    let f = run i d w in
    let list = tally_list e (one e i) (at_element k f) (λ es. tally_at_element e (one e i) k f (λ x. tally_run e i d w x) es) in
    omega (arith, tally_passing e i w c, list (passing i w c))

-- an operation adds at most one, and that for its own id
pub tally_change : (e : ℕ) (o : Operation) (ks : Children) → tally_children e (change o ks) ≤ tally_children e ks + one e o.id
unfolding change
tally_change e o ks =
    tally_at_key e (one e o.id) (makes o.way) o.top _ (λ x. tally_run e o.id o.deps o.way x) ks
