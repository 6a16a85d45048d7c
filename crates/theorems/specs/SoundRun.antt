-- Soundness is kept by what an operation does along its way: at a key, at an element, by an insert, at every place on the way, at the root.
-- A place on the way with w left and n for the depth of what hangs under it reaches depth n + steps w - 1, which is at most 8.
-- Assumes nothing.
use Rattle.std.specs.Prelude.{ℕ, suc, ◌+◌, ◌≤◌, ◌≡◌, refl, Bool, true, false, List}
use Rattle.std.proofs.Common.{arith}
use Rattle.meaning.specs.Places.{before, order}
use Rattle.meaning.specs.Places.{Place, bare, Children, childless, child, Elements, empty, element}
use Rattle.meaning.specs.Ways.{Prev, head, after, Way, assign, delete, insert, into_map, into_list, Operation, steps, deletes, makes}
use Rattle.meaning.specs.Apply.{at_key, at_element, step_on, step_from, insert_after, give, mark, passing, run, change}
use Rattle.meaning.specs.Valid.{ValidKey, ValidWay, ValidEdit}
use Rattle.meaning.specs.Sound.{Below, SoundPlace, SoundChildren, SoundElements}
use Rattle.theorems.specs.Decide.{Tri, less, same, more, tri, Same, is, isnt, alike}
use Rattle.theorems.specs.Keys.{TriK, less_k, same_k, more_k, tri_k, order_trans, order_self}
use Rattle.theorems.specs.Keys.{make, make_yes, make_no, key_childless, key_less, key_same, key_more}
use Rattle.theorems.specs.Elements.{element_empty, element_is, element_isnt, step_on_empty, step_on_skip, step_on_stop}
use Rattle.theorems.specs.Elements.{step_from_empty, step_from-is, step_from_isnt, insert_head, insert_after_lem}
use Rattle.theorems.specs.SoundAtoms.{sound_bare, mark_marks, sound_mark, sound_map, sound_list, sound_clear, sound_give}
use Rattle.theorems.specs.SoundAtoms.{sound_passing, passing_marks}

-- Keys.

below_trans : (j k : List ℕ) (ks : Children) → order j k ≡ before → Below k ks → Below j ks
below_trans j k childless h u = tt
below_trans j k (child i c ks) h u = (order_trans j k i h u.0, below_trans j k ks h u.1)

below_make : (j : List ℕ) (b : Bool) (k : List ℕ) (f : Place → Place) (ks : Children) → order j k ≡ before → Below j ks
    → Below j (make b k f ks)
below_make j true k f ks h u = rw (make_yes k f ks) (h, u)
below_make j false k f ks h u = rw (make_no k f ks) u

below_at_key : (j : List ℕ) (b : Bool) (k : List ℕ) (f : Place → Place) (ks : Children) → order j k ≡ before → Below j ks
    → Below j (at_key b k f ks)
below_at_key j b k f childless h u = rw (key_childless b k f) (below_make j b k f childless h u)
below_at_key j b k f (child i c ks) h u = go (tri_k k i) (below_at_key j b k f ks h u.1)
  where
    go : TriK k i → Below j (at_key b k f ks) → Below j (at_key b k f (child i c ks))
    go (less_k p q) r = rw (key_less b k f i c ks p) (below_make j b k f (child i c ks) h u)
    go (same_k e) r = rw (key_same b k f i c ks (rw e (order_self i))) u
    go (more_k p q) r = rw (key_more b k f i c ks p) (u.0, r)

module _ (P : ℕ → Type 0) (n : ℕ) where
  sound_make : (b : Bool) (k : List ℕ) (f : Place → Place) (ks : Children) → ValidKey k → n ≤ 8 → SoundPlace P (suc n) (f bare)
      → Below k ks → SoundChildren P n ks → SoundChildren P n (make b k f ks)
  sound_make true k f ks y d h l u = rw (make_yes k f ks) ((y, d), l, h, u)
  sound_make false k f ks y d h l u = rw (make_no k f ks) u

  sound_at_key : (b : Bool) (k : List ℕ) (f : Place → Place) → ValidKey k → n ≤ 8
      → ((c : Place) → SoundPlace P (suc n) c → SoundPlace P (suc n) (f c))
      → (ks : Children) → SoundChildren P n ks → SoundChildren P n (at_key b k f ks)
  sound_at_key b k f y d h childless u =
      rw (key_childless b k f) (sound_make b k f childless y d (h bare (sound_bare P (suc n))) tt tt)
  sound_at_key b k f y d h (child i c ks) u = go (tri_k k i) (sound_at_key b k f y d h ks u.3)
    where
      go : TriK k i → SoundChildren P n (at_key b k f ks) → SoundChildren P n (at_key b k f (child i c ks))
      go (less_k p q) r =
          rw (key_less b k f i c ks p)
          (sound_make b k f (child i c ks) y d (h bare (sound_bare P (suc n))) (p, below_trans k i ks p u.1) u)
      go (same_k e) r = rw (key_same b k f i c ks (rw e (order_self i))) (u.0, u.1, h c u.2, u.3)
      go (more_k p q) r = rw (key_more b k f i c ks p) (u.0, below_at_key i b k f ks q u.1, u.2, r)

  -- Elements.

  sound_at_element : (e : ℕ) (f : Place → Place) → ((c : Place) → SoundPlace P (suc n) c → SoundPlace P (suc n) (f c))
      → (es : Elements) → SoundElements P n es → SoundElements P n (at_element e f es)
  sound_at_element e f h empty u = rw (element_empty e f) tt
  sound_at_element e f h (element i c es) u = go (alike e i) (sound_at_element e f h es u.2)
    where
      go : Same e i → SoundElements P n (at_element e f es) → SoundElements P n (at_element e f (element i c es))
      go (is q) r = rw (element_is e f i c es q) (u.0, h c u.1, u.2)
      go (isnt q) r = rw (element_isnt e f i c es q) (u.0, u.1, r)

  module _ (i : ℕ) (c : Place) (d : n ≤ 8) (h : SoundPlace P (suc n) c) where
    sound_step_on : (es : Elements) → SoundElements P n es → SoundElements P n (step_on i c es)
    sound_step_on empty u = rw (step_on_empty i c) (d, h, tt)
    sound_step_on (element j x es) u = go (tri i j) (sound_step_on es u.2)
      where
        go : Tri i j → SoundElements P n (step_on i c es) → SoundElements P n (step_on i c (element j x es))
        go (less q) r = rw (step_on_skip i c j x es q) (u.0, u.1, r)
        go (same q) r = rw (step_on_stop i c j x es (omega arith)) (d, h, u)
        go (more q) r = rw (step_on_stop i c j x es (omega arith)) (d, h, u)

    sound_step_from : (e : ℕ) (es : Elements) → SoundElements P n es → SoundElements P n (step_from e i c es)
    sound_step_from e empty u = rw (step_from_empty e i c) tt
    sound_step_from e (element j x es) u = go (alike e j) (sound_step_from e es u.2)
      where
        go : Same e j → SoundElements P n (step_from e i c es) → SoundElements P n (step_from e i c (element j x es))
        go (is q) r = rw (step_from-is e i c j x es q) (u.0, u.1, sound_step_on es u.2)
        go (isnt q) r = rw (step_from_isnt e i c j x es q) (u.0, u.1, r)

    sound_insert : (p : Prev) (es : Elements) → SoundElements P n es → SoundElements P n (insert_after p i c es)
    sound_insert head es u = rw (insert_head i c es) (sound_step_on es u)
    sound_insert (after e) es u = rw (insert_after_lem e i c es) (sound_step_from e es u)

-- The way.

pub sound_run : (P : ℕ → Type 0) (n i : ℕ) (d : List ℕ) (w : Way) (c : Place) → ValidWay w → n + steps w ≤ 9 → (deletes w ≡ false → P i)
    → SoundPlace P n c → SoundPlace P n (run i d w c)
unfolding run deletes steps
sound_run P n i d (assign a) c y r p f = sound_give P n i d a c y (p refl) f
sound_run P n i d delete c y r p f = sound_clear P n d c f
sound_run P n i d (insert q a) c y r p f =
    sound_list P n (insert_after q i (give i d a bare)) (mark i c)
    (λ Q s es u.
    sound_insert Q n i (give i d a bare) (omega arith)
    (sound_give Q (suc n) i d a bare y.1 (s i (mark_marks i c)) (sound_bare Q (suc n))) q es u)
    (sound_mark P n i c (p refl) f)
sound_run P n i d (into_map k w) c y r p f =
    sound_map P n (at_key (makes w) k (run i d w)) (passing i w c)
    (λ Q s ks u.
    sound_at_key Q n (makes w) k (run i d w) y.0 (omega arith)
    (λ x g. sound_run Q (suc n) i d w x y.1 (omega arith) (λ e. s i (passing_marks i w c e)) g) ks u)
    (sound_passing P n i w c p f)
sound_run P n i d (into_list e w) c y r p f =
    sound_list P n (at_element e (run i d w)) (passing i w c)
    (λ Q s es u.
    sound_at_element Q n e (run i d w)
    (λ x g. sound_run Q (suc n) i d w x y.1 (omega arith) (λ e. s i (passing_marks i w c e)) g) es u)
    (sound_passing P n i w c p f)

-- an operation keeps the root sound, for whatever ids its own is among
pub sound_change : (P : ℕ → Type 0) (o : Operation) (ks : Children) → ValidEdit o.top o.way → P o.id → SoundChildren P 1 ks
    → SoundChildren P 1 (change o ks)
unfolding change
sound_change P o ks y p f =
    sound_at_key P 1 (makes o.way) o.top (run o.id o.deps o.way) y.first (omega arith)
    (λ c g. sound_run P 2 o.id o.deps o.way c y.rest (omega (arith, y.reach)) (λ e. p) g) ks f
