-- What is done at one place commutes, where neither id is covered by the other's deps: marking, dropping and adding values, clearing,
-- entering the map or the list.
-- Assumes nothing.
use Rattle.std.specs.Prelude.{ℕ, ◌≡◌, refl, true, List, ◌≢◌}
use Rattle.std.proofs.Common.{sym, ap, ◌∙◌}
use Rattle.meaning.specs.Ids.{uncovered}
use Rattle.meaning.specs.Sets.{keep, put}
use Rattle.meaning.specs.Places.{Plain, Value, Place, place, Children, childless, child, Elements, empty, element, bare}
use Rattle.meaning.specs.Ways.{Assigned, plain, empty_map, empty_list}
use Rattle.meaning.specs.Clear.{clear_marks, clear_values, clear, clear_children, clear_elements}
use Rattle.meaning.specs.Apply.{mark, drop_values, add_value, on_map, on_list, give}
use Rattle.theorems.specs.Keep.{keep_comm, keep_put, put_put}

-- two changes of a place commute
abbrev pub Comm : (Place → Place) → (Place → Place) → Type 0
Comm f g = (c : Place) → f (g c) ≡ g (f c)

-- the id i is not covered by d
abbrev pub Free : List ℕ → ℕ → Type 0
Free d i = uncovered d i ≡ true

comp : (f g h : Place → Place) → Comm f g → Comm f h → Comm f (λ c. g (h c))
comp f g h p q c = p (h c) ∙ ap g (q c)

-- the sets of a place, cleared
marks_put : (d : List ℕ) (i : ℕ) (ms : List ℕ) → Free d i → clear_marks d (put (λ k. k) i ms) ≡ put (λ k. k) i (clear_marks d ms)
unfolding clear_marks
marks_put d i ms h = keep_put (λ k. k) (λ i. uncovered d i) i ms h

values_put : (d : List ℕ) (v : Value) (vs : List Value) → Free d v.id
    → clear_values d (put (λ v. v.id) v vs) ≡ put (λ v. v.id) v (clear_values d vs)
unfolding clear_values
values_put d v vs h = keep_put (λ v. v.id) (λ v. uncovered d v.id) v vs h

marks_comm : (d e : List ℕ) (ms : List ℕ) → clear_marks d (clear_marks e ms) ≡ clear_marks e (clear_marks d ms)
unfolding clear_marks
marks_comm d e ms = keep_comm (λ i. uncovered d i) (λ i. uncovered e i) ms

values_comm : (d e : List ℕ) (vs : List Value) → clear_values d (clear_values e vs) ≡ clear_values e (clear_values d vs)
unfolding clear_values
values_comm d e vs = keep_comm (λ v. uncovered d v.id) (λ v. uncovered e v.id) vs

-- pairs of atoms
mark-mark : (i j : ℕ) → i ≢ j → Comm (mark i) (mark j)
unfolding mark
mark-mark i j n (place m l ms vs ks es) = ap (λ ms. place m l ms vs ks es) (put_put (λ k. k) i j ms n)

mark-drop : (i : ℕ) (d : List ℕ) → Comm (mark i) (drop_values d)
unfolding mark drop_values
mark-drop i d (place m l ms vs ks es) = refl

mark_add : (i j : ℕ) (v : Plain) → Comm (mark i) (add_value j v)
unfolding mark add_value
mark_add i j v (place m l ms vs ks es) = refl

pub mark-map : (i : ℕ) (f : Children → Children) → Comm (mark i) (on_map f)
unfolding mark on_map
mark-map i f (place m l ms vs ks es) = refl

pub mark_list : (i : ℕ) (f : Elements → Elements) → Comm (mark i) (on_list f)
unfolding mark on_list
mark_list i f (place m l ms vs ks es) = refl

mark_clear : (i : ℕ) (d : List ℕ) → Free d i → Comm (mark i) (clear d)
unfolding mark clear
mark_clear i d h (place m l ms vs ks es) =
    ap (λ ms. place m l ms (clear_values d vs) (clear_children d ks) (clear_elements d es)) (sym (marks_put d i ms h))

drop-drop : (d e : List ℕ) → Comm (drop_values d) (drop_values e)
unfolding drop_values
drop-drop d e (place m l ms vs ks es) = ap (λ vs. place m l ms vs ks es) (values_comm d e vs)

drop_add : (d : List ℕ) (i : ℕ) (v : Plain) → Free d i → Comm (drop_values d) (add_value i v)
unfolding drop_values add_value
drop_add d i v h (place m l ms vs ks es) = ap (λ vs. place m l ms vs ks es) (values_put d (record { id = i; val = v }) vs h)

drop-map : (d : List ℕ) (f : Children → Children) → Comm (drop_values d) (on_map f)
unfolding drop_values on_map
drop-map d f (place m l ms vs ks es) = refl

drop_list : (d : List ℕ) (f : Elements → Elements) → Comm (drop_values d) (on_list f)
unfolding drop_values on_list
drop_list d f (place m l ms vs ks es) = refl

drop_clear : (d e : List ℕ) → Comm (drop_values d) (clear e)
unfolding drop_values clear
drop_clear d e (place m l ms vs ks es) =
    ap (λ vs. place m l (clear_marks e ms) vs (clear_children e ks) (clear_elements e es)) (values_comm d e vs)

add_add : (i : ℕ) (v : Plain) (j : ℕ) (w : Plain) → i ≢ j → Comm (add_value i v) (add_value j w)
unfolding add_value
add_add i v j w n (place m l ms vs ks es) =
    ap (λ vs. place m l ms vs ks es) (put_put (λ v. v.id) (record { id = i; val = v }) (record { id = j; val = w }) vs n)

add_map : (i : ℕ) (v : Plain) (f : Children → Children) → Comm (add_value i v) (on_map f)
unfolding add_value on_map
add_map i v f (place m l ms vs ks es) = refl

add_list : (i : ℕ) (v : Plain) (f : Elements → Elements) → Comm (add_value i v) (on_list f)
unfolding add_value on_list
add_list i v f (place m l ms vs ks es) = refl

add_clear : (i : ℕ) (v : Plain) (d : List ℕ) → Free d i → Comm (add_value i v) (clear d)
unfolding add_value clear
add_clear i v d h (place m l ms vs ks es) =
    ap (λ vs. place m l (clear_marks d ms) vs (clear_children d ks) (clear_elements d es))
    (sym (values_put d (record { id = i; val = v }) vs h))

pub map-map : (f g : Children → Children) → ((ks : Children) → f (g ks) ≡ g (f ks)) → Comm (on_map f) (on_map g)
unfolding on_map
map-map f g h (place m l ms vs ks es) = ap (λ ks. place true l ms vs ks es) (h ks)

pub map_list : (f : Children → Children) (g : Elements → Elements) → Comm (on_map f) (on_list g)
unfolding on_map on_list
map_list f g (place m l ms vs ks es) = refl

pub list_list : (f g : Elements → Elements) → ((es : Elements) → f (g es) ≡ g (f es)) → Comm (on_list f) (on_list g)
unfolding on_list
list_list f g h (place m l ms vs ks es) = ap (λ es. place m true ms vs ks es) (h es)

map_clear : (f : Children → Children) (d : List ℕ) → ((ks : Children) → clear_children d (f ks) ≡ f (clear_children d ks))
    → Comm (on_map f) (clear d)
unfolding on_map clear
map_clear f d h (place m l ms vs ks es) =
    ap (λ ks. place true l (clear_marks d ms) (clear_values d vs) ks (clear_elements d es)) (sym (h ks))

list_clear : (f : Elements → Elements) (d : List ℕ) → ((es : Elements) → clear_elements d (f es) ≡ f (clear_elements d es))
    → Comm (on_list f) (clear d)
unfolding on_list clear
list_clear f d h (place m l ms vs ks es) =
    ap (λ es. place m true (clear_marks d ms) (clear_values d vs) (clear_children d ks) es) (sym (h es))

mutual
  unfolding clear

  pub clear_clear : (d e : List ℕ) (c : Place) → clear d (clear e c) ≡ clear e (clear d c)
  clear_clear d e (place m l ms vs ks es) =
      cc (marks_comm d e ms, values_comm d e vs, children_clear d e ks, elements_clear d e es)

  children_clear : (d e : List ℕ) (ks : Children) → clear_children d (clear_children e ks) ≡ clear_children e (clear_children d ks)
  children_clear d e childless = refl
  children_clear d e (child k c ks) = cc (clear_clear d e c, children_clear d e ks)

  elements_clear : (d e : List ℕ) (es : Elements) → clear_elements d (clear_elements e es) ≡ clear_elements e (clear_elements d es)
  elements_clear d e empty = refl
  elements_clear d e (element i c es) = cc (clear_clear d e c, elements_clear d e es)

pub clear_bare : (d : List ℕ) → clear d bare ≡ bare
unfolding clear clear_marks clear_values keep
clear_bare d = refl

-- what commutes with each atom of an operation i with deps d
pub record Friend (f : Place → Place) (i : ℕ) (d : List ℕ) : Type 0 where
  pub marks : Comm f (mark i)
  pub drops : Comm f (drop_values d)
  pub adds : (v : Plain) → Comm f (add_value i v)
  pub clears : Comm f (clear d)
  pub map : Comm f (on_map (λ ks. ks))
  pub list : Comm f (on_list (λ es. es))

pub friend_give : (f : Place → Place) (i : ℕ) (d : List ℕ) → Friend f i d → (a : Assigned) → Comm f (give i d a)
unfolding give
friend_give f i d r (plain v) =
    comp f (add_value i v) (λ c. drop_values d (mark i c)) (r.adds v) (comp f (drop_values d) (mark i) r.drops r.marks)
friend_give f i d r empty_map =
    comp f (on_map (λ ks. ks)) (λ c. mark i (clear d c)) r.map (comp f (mark i) (clear d) r.marks r.clears)
friend_give f i d r empty_list =
    comp f (on_list (λ es. es)) (λ c. mark i (clear d c)) r.list (comp f (mark i) (clear d) r.marks r.clears)

pub friend_comp : {f g : Place → Place} {i : ℕ} {d : List ℕ} → Friend f i d → Friend g i d → Friend (λ c. f (g c)) i d
friend_comp {f} {g} p q = record {
  marks = both _ p.marks q.marks;
  drops = both _ p.drops q.drops;
  adds = λ v. both _ (p.adds v) (q.adds v);
  clears = both _ p.clears q.clears;
  map = both _ p.map q.map;
  list = both _ p.list q.list;
}
  where
    both : (h : Place → Place) → Comm f h → Comm g h → Comm (λ c. f (g c)) h
    both h u v c = ap f (v c) ∙ u (g c)

-- the atoms of operation j with deps e are friends of operation i with deps d
module _ (i : ℕ) (d : List ℕ) (j : ℕ) (e : List ℕ) (n : j ≢ i) (u : Free d j) (v : Free e i) where
  pub friend_mark : Friend (mark j) i d
  friend_mark = record {
    marks = mark-mark j i n;
    drops = mark-drop j d;
    adds = λ w. mark_add j i w;
    clears = mark_clear j d u;
    map = mark-map j _;
    list = mark_list j _;
  }

  friend_drop : Friend (drop_values e) i d
  friend_drop = record {
    marks = λ c. sym (mark-drop i e c);
    drops = drop-drop e d;
    adds = λ w. drop_add e i w v;
    clears = drop_clear e d;
    map = drop-map e _;
    list = drop_list e _;
  }

  friend_add : (x : Plain) → Friend (add_value j x) i d
  friend_add x = record {
    marks = λ c. sym (mark_add i j x c);
    drops = λ c. sym (drop_add d j x u c);
    adds = λ w. add_add j x i w n;
    clears = add_clear j x d u;
    map = add_map j x _;
    list = add_list j x _;
  }

  pub friend_clear : Friend (clear e) i d
  friend_clear = record {
    marks = λ c. sym (mark_clear i e v c);
    drops = λ c. sym (drop_clear d e c);
    adds = λ w c. sym (add_clear i w e v c);
    clears = clear_clear e d;
    map = λ c. sym (map_clear (λ ks. ks) e (λ ks. refl) c);
    list = λ c. sym (list_clear (λ es. es) e (λ es. refl) c);
  }

  pub friend_map : (f : Children → Children) → ((ks : Children) → clear_children d (f ks) ≡ f (clear_children d ks)) → Friend (on_map f) i d
  friend_map f h = record {
    marks = λ c. sym (mark-map i f c);
    drops = λ c. sym (drop-map d f c);
    adds = λ w c. sym (add_map i w f c);
    clears = map_clear f d h;
    map = map-map f (λ ks. ks) (λ ks. refl);
    list = map_list f _;
  }

  pub friend_list : (f : Elements → Elements) → ((es : Elements) → clear_elements d (f es) ≡ f (clear_elements d es))
      → Friend (on_list f) i d
  friend_list f h = record {
    marks = λ c. sym (mark_list i f c);
    drops = λ c. sym (drop_list d f c);
    adds = λ w c. sym (add_list i w f c);
    clears = list_clear f d h;
    map = λ c. sym (map_list _ f c);
    list = list_list f (λ es. es) (λ es. refl);
  }

  pub friend_given : (x : Assigned) → Friend (give j e x) i d
  unfolding give
  friend_given (plain x) = friend_comp (friend_add x) (friend_comp friend_drop friend_mark)
  friend_given empty_map = friend_comp (friend_map (λ ks. ks) (λ ks. refl)) (friend_comp friend_mark friend_clear)
  friend_given empty_list = friend_comp (friend_list (λ es. es) (λ es. refl)) (friend_comp friend_mark friend_clear)
