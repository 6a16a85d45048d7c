-- Two operations commute on any document, where neither's id is covered by the other's deps and the elements on each one's way are
-- covered by its own deps.
-- Assumes nothing.
use Rattle.std.specs.Prelude.{ℕ, ◌≡◌, refl, Bool, true, false, cond, List, ◌≢◌}
use Rattle.std.proofs.Math.Path.{sym}
use Rattle.std.proofs.Common.{ap, ◌∙◌, true≢false}
use Rattle.std.proofs.lemmas.List.{set_comm}
use Rattle.meaning.specs.Ids.{covered, uncovered, entry_of, counter_of}
use Rattle.meaning.specs.Places.{Place, Children, Elements, bare, Document}
use Rattle.meaning.specs.Ways.{Prev, head, after, Way, assign, delete, insert, into_map, into_list, deletes, makes, Operation}
use Rattle.meaning.specs.Clear.{clear}
use Rattle.meaning.specs.Apply.{mark, on_map, on_list, give, at_key, at_element, insert_after, passing, run, change, apply}
use Rattle.theorems.specs.Decide.{Same, is, isnt, alike}
use Rattle.theorems.specs.Keys.{Meek, TriK, less_k, same_k, more_k, tri_k, less_ne, key_key, key_both, clear_at_key}
use Rattle.theorems.specs.Elements.{Other, insert_insert, element_element, element_same, element_insert}
use Rattle.theorems.specs.Elements.{clear_at_element, clear_insert}
use Rattle.theorems.specs.Atoms.{Comm, Free, Friend, friend_give, friend_comp, friend_mark, friend_clear, friend_map}
use Rattle.theorems.specs.Atoms.{friend_list, friend_given, clear_bare, mark-map, mark_list, map-map, map_list, list_list}

-- the elements on a way are covered; of the head nothing is asked
abbrev pub KnownPrev : List ℕ → Prev → Type 0
KnownPrev d head = Unit {0}
KnownPrev d (after e) = covered d e ≡ true

abbrev pub Known : List ℕ → Way → Type 0
Known d (assign a) = Unit {0}
Known d delete = Unit {0}
Known d (insert p a) = KnownPrev d p
Known d (into_map k w) = Known d w
Known d (into_list e w) = (covered d e ≡ true) × Known d w

known_ne : (d : List ℕ) (k j : ℕ) → covered d k ≡ true → Free d j → k ≢ j
known_ne d k j p u q = true≢false (cc)

known_other : (d : List ℕ) (p : Prev) (j : ℕ) → KnownPrev d p → Free d j → Other p j
known_other d head j h u = tt
known_other d (after e) j h u = known_ne d e j h u

-- what isn't made is left bare
meek : (i : ℕ) (d : List ℕ) (w : Way) → Meek (makes w) (run i d w)
unfolding makes run
meek i d (assign a) e = absurd (true≢false e)
meek i d delete e = clear_bare d
meek i d (insert p a) e = absurd (true≢false e)
meek i d (into_map k w) e = absurd (true≢false e)
meek i d (into_list k w) e = absurd (true≢false e)

passing-by : (f : Place → Place) (i : ℕ) (w : Way) → Comm f (mark i) → Comm f (passing i w)
unfolding passing
passing-by f i w h = go (deletes w)
  where
    go : (b : Bool) → Comm f (λ c. cond b c (mark i c))
    go true c = refl
    go false c = h c

friend_id : (i : ℕ) (d : List ℕ) → Friend (λ c. c) i d
friend_id i d = record {
  marks = λ c. refl;
  drops = λ c. refl;
  adds = λ v c. refl;
  clears = λ c. refl;
  map = λ c. refl;
  list = λ c. refl;
}

friend_if : (i : ℕ) (d : List ℕ) (j : ℕ) (b : Bool) → Friend (mark j) i d → Friend (λ c. cond b c (mark j c)) i d
friend_if i d j true r = friend_id i d
friend_if i d j false r = r

-- what an operation does commutes with each atom of another
module _ (i : ℕ) (d : List ℕ) (j : ℕ) (e : List ℕ) (n : j ≢ i) (u : Free d j) (v : Free e i) where
  friend_passing : (w : Way) → Friend (passing j w) i d
  unfolding passing
  friend_passing w = friend_if i d j (deletes w) (friend_mark i d j e n u v)

  still : (f : Place → Place) → Friend f i d → clear d (f bare) ≡ f bare
  still f r = sym (r.clears bare) ∙ ap f (clear_bare d)

  friend_run : (w : Way) → Friend (run j e w) i d
  unfolding run
  friend_run (assign x) = friend_given i d j e n u v x
  friend_run delete = friend_clear i d j e n u v
  friend_run (insert p x) =
      let new = still (give j e x) (friend_given i d j e n u v x) in
      let list = friend_list i d j e n u v (insert_after p j (give j e x bare)) (λ es. clear_insert d p j _ es new) in
      friend_comp list (friend_mark i d j e n u v)
  friend_run (into_map k w) =
      let r = friend_run w in
      let new = still (run j e w) r in
      friend_comp (friend_map i d j e n u v (at_key (makes w) k (run j e w)) (λ ks. clear_at_key d _ k _ ks (λ c. sym (r.clears c)) new))
      (friend_passing w)
  friend_run (into_list k w) =
      let r = friend_run w in
      friend_comp (friend_list i d j e n u v (at_element k (run j e w)) (λ es. clear_at_element d k _ es (λ c. sym (r.clears c))))
      (friend_passing w)

square : (a t b s : Place → Place) → Comm a b → Comm a s → Comm t b → Comm t s → Comm (λ c. a (t c)) (λ c. b (s c))
square a t b s ab sa tb ts c = ap a (tb (s c)) ∙ (ab (t (s c)) ∙ (ap (λ x. b (a x)) (ts c) ∙ ap b (sa (t c))))

-- two ways that part here, and two that go on together
module _ (i : ℕ) (d : List ℕ) (j : ℕ) (e : List ℕ) (n : i ≢ j) (u : Free d j) (v : Free e i) where
  passings : (w x : Way) → Comm (passing i w) (passing j x)
  passings w x = passing-by (passing i w) j x (friend_passing j e i d n v u w).marks

  map-passing : (f : Children → Children) (i : ℕ) (w : Way) → Comm (on_map f) (passing i w)
  map-passing f i w = passing-by (on_map f) i w (λ c. sym (mark-map i f c))

  list_passing : (f : Elements → Elements) (i : ℕ) (w : Way) → Comm (on_list f) (passing i w)
  list_passing f i w = passing-by (on_list f) i w (λ c. sym (mark_list i f c))

  map·map : (w x : Way) (f g : Children → Children) → ((ks : Children) → f (g ks) ≡ g (f ks))
      → Comm (λ c. on_map f (passing i w c)) (λ c. on_map g (passing j x c))
  map·map w x f g h =
      square (on_map f) (passing i w) (on_map g) (passing j x)
      (map-map f g h) (map-passing f j x) (λ c. sym (map-passing g i w c)) (passings w x)

  map·list : (w x : Way) (f : Children → Children) (g : Elements → Elements)
      → Comm (λ c. on_map f (passing i w c)) (λ c. on_list g (passing j x c))
  map·list w x f g =
      square (on_map f) (passing i w) (on_list g) (passing j x)
      (map_list f g) (map-passing f j x) (λ c. sym (list_passing g i w c)) (passings w x)

  list·map : (w x : Way) (f : Elements → Elements) (g : Children → Children)
      → Comm (λ c. on_list f (passing i w c)) (λ c. on_map g (passing j x c))
  list·map w x f g =
      square (on_list f) (passing i w) (on_map g) (passing j x)
      (λ c. sym (map_list g f c)) (list_passing f j x) (λ c. sym (map-passing g i w c)) (passings w x)

  list·list : (w x : Way) (f g : Elements → Elements) → ((es : Elements) → f (g es) ≡ g (f es))
      → Comm (λ c. on_list f (passing i w c)) (λ c. on_list g (passing j x c))
  list·list w x f g h =
      square (on_list f) (passing i w) (on_list g) (passing j x)
      (list_list f g h) (list_passing f j x) (λ c. sym (list_passing g i w c)) (passings w x)

  keys : (k l : List ℕ) (w x : Way) → Comm (run i d w) (run j e x) → (ks : Children)
      → at_key (makes w) k (run i d w) (at_key (makes x) l (run j e x) ks)
      ≡ at_key (makes x) l (run j e x) (at_key (makes w) k (run i d w) ks)
  keys k l w x h ks = go (tri_k k l)
    where
      f : Children → Children
      f = at_key (makes w) k (run i d w)

      g : Children → Children
      g = at_key (makes x) l (run j e x)

      far : k ≢ l → f (g ks) ≡ g (f ks)
      far m = key_key (makes w) k (run i d w) (makes x) l (run j e x) ks m

      go : TriK k l → f (g ks) ≡ g (f ks)
      go (same_k q) = rw q (key_both (makes w) l (run i d w) (makes x) (run j e x) ks h (meek i d w) (meek j e x))
      go (less_k p q) = far (less_ne k l p)
      go (more_k p q) = far (λ z. less_ne l k q (sym z))

  elements : (k l : ℕ) (w x : Way) → Comm (run i d w) (run j e x) → (es : Elements)
      → at_element k (run i d w) (at_element l (run j e x) es) ≡ at_element l (run j e x) (at_element k (run i d w) es)
  elements k l w x h es = go (alike k l)
    where
      go : Same k l → at_element k (run i d w) (at_element l (run j e x) es) ≡ at_element l (run j e x) (at_element k (run i d w) es)
      go (is q) = rw q (element_same l (run i d w) (run j e x) es h)
      go (isnt m) = element_element k (run i d w) l (run j e x) es m

  -- the first way against each atom of the second operation, or the reverse
  against : (w : Way) → Friend (run i d w) j e
  against w = friend_run j e i d n v u w

  runs : (w x : Way) → Known d w → Known e x → Comm (run i d w) (run j e x)
  unfolding run passing deletes
  runs (assign a) x p q = λ c. sym (friend_give (run j e x) i d (friend_run i d j e (λ z. n (sym z)) u v x) a c)
  runs delete x p q = λ c. sym ((friend_run i d j e (λ z. n (sym z)) u v x).clears c)
  runs (insert k a) (assign b) p q = friend_give (run i d (insert k a)) j e (against (insert k a)) b
  runs (insert k a) delete p q = (against (insert k a)).clears
  runs (insert k a) (insert l b) p q =
      list·list (insert k a) (insert l b) _ _ (λ es. insert_insert k i _ l j _ es n (known_other d k j p u) (known_other e l i q v))
  runs (insert k a) (into_map l x) p q = list·map (insert k a) x _ _
  runs (insert k a) (into_list l x) p q =
      list·list (insert k a) x _ _ (λ es. sym (element_insert l _ k i _ es (known_ne e l i q.0 v)))
  runs (into_map k w) (assign b) p q = friend_give (run i d (into_map k w)) j e (against (into_map k w)) b
  runs (into_map k w) delete p q = (against (into_map k w)).clears
  runs (into_map k w) (insert l b) p q = map·list w (insert l b) _ _
  runs (into_map k w) (into_map l x) p q = map·map w x _ _ (keys k l w x (runs w x p q))
  runs (into_map k w) (into_list l x) p q = map·list w x _ _
  runs (into_list k w) (assign b) p q = friend_give (run i d (into_list k w)) j e (against (into_list k w)) b
  runs (into_list k w) delete p q = (against (into_list k w)).clears
  runs (into_list k w) (insert l b) p q = list·list w (insert l b) _ _ (λ es. element_insert k _ l j _ es (known_ne d k j p.0 u))
  runs (into_list k w) (into_map l x) p q = list·map w x _ _
  runs (into_list k w) (into_list l x) p q = list·list w x _ _ (elements k l w x (runs w x p.1 q.1))

-- they are operations of two terminals, and neither covers the other
pub record Apart (a b : Operation) : Type 0 where
  pub other : entry_of a.id ≢ entry_of b.id
  pub ahead : uncovered a.deps b.id ≡ true
  pub aback : uncovered b.deps a.id ≡ true

changes : (a b : Operation) → Apart a b → Known a.deps a.way → Known b.deps b.way → (ks : Children)
    → change a (change b ks) ≡ change b (change a ks)
unfolding change
changes a b r p q =
    let n : a.id ≢ b.id = λ e. r.other (ap (λ i. entry_of i) e) in
    keys a.id a.deps b.id b.deps n r.ahead r.aback a.top b.top a.way b.way
    (runs a.id a.deps b.id b.deps n r.ahead r.aback a.way b.way p q)

pub commute : (a b : Operation) (D : Document) → Apart a b → Known a.deps a.way → Known b.deps b.way
    → apply a (apply b D) ≡ apply b (apply a D)
unfolding apply
commute a b D r p q = λ i. record {
  seen = set_comm D.seen (entry_of b.id) (entry_of a.id) (counter_of b.id) (counter_of a.id) (λ e. r.other (sym e)) i;
  root = changes a b r p q D.root i;
}
