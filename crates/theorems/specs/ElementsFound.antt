-- Whether a way's elements are there isn't changed by an operation whose id the way's deps don't cover: it makes places and puts in one
-- element, none that the deps cover.
-- Assumes nothing.
use Rattle.std.specs.Prelude.{ℕ, ◌≡◌, Bool, not, cond, ◌&&◌, List, ◌≢◌}
use Rattle.std.proofs.Math.Path.{refl, ap}
use Rattle.std.proofs.Common.{◌∙◌, true≢false}
use Rattle.std.proofs.Math.Bool.{true, false}
use Rattle.meaning.specs.Ids.{covered}
use Rattle.meaning.specs.Places.{Plain, Place, place, Children, Elements, bare, children_of, elements_of, Document}
use Rattle.meaning.specs.Ways.{Assigned, plain, empty_map, empty_list, head, after}
use Rattle.meaning.specs.Ways.{Way, assign, delete, insert, into_map, into_list, Operation, deletes, makes}
use Rattle.meaning.specs.Clear.{clear}
use Rattle.meaning.specs.Apply.{mark, drop_values, add_value, on_map, on_list, give, at_key, at_element, insert_after}
use Rattle.meaning.specs.Apply.{passing, run, change, apply}
use Rattle.meaning.specs.Judge.{look, Found, found, unknown, is_found, find, elements_found, astray}
use Rattle.theorems.specs.Finding.{look-at_key, look_clear, find-at_element, find_insert, on_found, find_clear}

-- an element's place, if there is one, leads on
abbrev onto : List ℕ → Way → Found → Bool
onto d w f = elim f [ found x ↦ elements_found d w x | unknown ↦ false ]

-- of a list g changes, no way with deps d can tell
record StillList (d : List ℕ) (g : Elements → Elements) : Type 0 where
  there : (e : ℕ) (es : Elements) → covered d e ≡ true → is_found (find e (g es)) ≡ is_found (find e es)
  on : (w : Way) (e : ℕ) (es : Elements) → covered d e ≡ true → onto d w (find e (g es)) ≡ onto d w (find e es)

-- both branches of a place are left as they were
abbrev SameBranches : (Place → Place) → Type 0
SameBranches f = (c : Place) → (children_of (f c) ≡ children_of c) × (elements_of (f c) ≡ elements_of c)

mark_branches : (i : ℕ) → SameBranches (mark i)
unfolding mark
mark_branches i (place m l ms vs ks es) = (refl, refl)

drop_branches : (d : List ℕ) → SameBranches (drop_values d)
unfolding drop_values
drop_branches d (place m l ms vs ks es) = (refl, refl)

add_branches : (i : ℕ) (v : Plain) → SameBranches (add_value i v)
unfolding add_value
add_branches i v (place m l ms vs ks es) = (refl, refl)

module _ (d : List ℕ) where
  -- of a place f changes, no way with deps d can tell
  abbrev Still : (Place → Place) → Type 0
  Still f = (w : Way) (c : Place) → elements_found d w (f c) ≡ elements_found d w c

  still_comp : (f g : Place → Place) → Still f → Still g → Still (λ c. f (g c))
  still_comp f g p q w c = p w (g c) ∙ q w c

  -- what leaves both branches as they were
  still_branches : (f : Place → Place) → SameBranches f → Still f
  unfolding elements_found
  still_branches f h (assign a) c = refl
  still_branches f h delete c = refl
  still_branches f h (insert head a) c = refl
  still_branches f h (insert (after e) a) c = ap (λ es. covered d e && is_found (find e es)) (h c).1
  still_branches f h (into_map k w) c = ap (λ ks. elements_found d w (look k ks)) (h c).0
  still_branches f h (into_list e w) c = ap (λ es. covered d e && onto d w (find e es)) (h c).1

  still_mark : (i : ℕ) → Still (mark i)
  still_mark i = still_branches (mark i) (mark_branches i)

  still_map : (g : Children → Children)
      → ((w : Way) (k : List ℕ) (ks : Children) → elements_found d w (look k (g ks)) ≡ elements_found d w (look k ks))
      → Still (on_map g)
  unfolding on_map elements_found
  still_map g h (assign a) c = refl
  still_map g h delete c = refl
  still_map g h (insert head a) c = refl
  still_map g h (insert (after e) a) (place m l ms vs ks es) = refl
  still_map g h (into_map k w) (place m l ms vs ks es) = h w k ks
  still_map g h (into_list e w) (place m l ms vs ks es) = refl

  -- a test after another
  and_then : (a x y : Bool) → (a ≡ true → x ≡ y) → (a && x) ≡ (a && y)
  and_then true x y h = h refl
  and_then false x y h = refl

  still_list : (g : Elements → Elements) → StillList d g → Still (on_list g)
  unfolding on_list elements_found
  still_list g h (assign a) c = refl
  still_list g h delete c = refl
  still_list g h (insert head a) c = refl
  still_list g h (insert (after e) a) (place m l ms vs ks es) = and_then (covered d e) _ _ (λ p. h.there e es p)
  still_list g h (into_map k w) (place m l ms vs ks es) = refl
  still_list g h (into_list e w) (place m l ms vs ks es) = and_then (covered d e) _ _ (λ p. h.on w e es p)

  found_clear : (e : List ℕ) (f : Found) → is_found (on_found (clear e) f) ≡ is_found f
  found_clear e (found c) = refl
  found_clear e unknown = refl

  still_clear : (e : List ℕ) → Still (clear e)
  unfolding clear elements_found
  still_clear e (assign a) c = refl
  still_clear e delete c = refl
  still_clear e (insert head a) c = refl
  still_clear e (insert (after g) a) (place m l ms vs ks es) =
      ap (λ b. covered d g && b) (ap is_found (find_clear e g es) ∙ found_clear e (find g es))
  still_clear e (into_map k w) (place m l ms vs ks es) = ap (elements_found d w) (look_clear e k ks) ∙ still_clear e w (look k ks)
  still_clear e (into_list g w) (place m l ms vs ks es) =
      ap (λ b. covered d g && b) (ap (onto d w) (find_clear e g es) ∙ go (find g es) (λ c. still_clear e w c))
    where
      go : (f : Found) → ((c : Place) → elements_found d w (clear e c) ≡ elements_found d w c)
          → onto d w (on_found (clear e) f) ≡ onto d w f
      go (found c) h = h c
      go unknown h = refl

  still_give : (i : ℕ) (e : List ℕ) (a : Assigned) → Still (give i e a)
  unfolding give
  still_give i e (plain v) =
      still_comp (add_value i v) _ (still_branches _ (add_branches i v))
      (still_comp (drop_values e) _ (still_branches _ (drop_branches e)) (still_mark i))
  still_give i e empty_map =
      still_comp (on_map (λ ks. ks)) _ (still_map (λ ks. ks) (λ w k ks. refl)) (still_comp (mark i) _ (still_mark i) (still_clear e))
  still_give i e empty_list =
      still_comp (on_list (λ es. es)) _ (still_list (λ es. es) (record { there = λ e es p. refl; on = λ w e es p. refl }))
      (still_comp (mark i) _ (still_mark i) (still_clear e))

  still_passing : (i : ℕ) (w : Way) → Still (passing i w)
  unfolding passing
  still_passing i w x c = go (deletes w)
    where
      go : (b : Bool) → elements_found d x (cond b c (mark i c)) ≡ elements_found d x c
      go true = refl
      go false = still_mark i x c

  uncovered_ne : (e i : ℕ) → covered d i ≡ false → covered d e ≡ true → e ≢ i
  uncovered_ne e i u p q = true≢false (cc)

  -- what operation i does under a place, no way can tell whose deps don't cover i
  pub still_run : (i : ℕ) (e : List ℕ) (x : Way) → covered d i ≡ false → Still (run i e x)
  unfolding run
  still_run i e (assign a) u = still_give i e a
  still_run i e delete u = still_clear e
  still_run i e (insert p a) u =
      still_comp (on_list (insert_after p i (give i e a bare))) (mark i) (still_list _ list) (still_mark i)
    where
      list : StillList d (insert_after p i (give i e a bare))
      list = record {
        there = λ g es q. ap is_found (find_insert g p i _ es (uncovered_ne g i u q));
        on = λ w g es q. ap (onto d w) (find_insert g p i _ es (uncovered_ne g i u q));
      }
  still_run i e (into_map k x) u =
      still_comp (on_map (at_key (makes x) k (run i e x))) (passing i x)
      (still_map _ (λ w j ks. look-at_key (elements_found d w) k (run i e x) (λ c. still_run i e x u w c) j (makes x) ks))
      (still_passing i x)
  still_run i e (into_list k x) u =
      still_comp (on_list (at_element k (run i e x))) (passing i x) (still_list _ (list (still_run i e x u))) (still_passing i x)
    where
      list : Still (run i e x) → StillList d (at_element k (run i e x))
      list h = record {
        there = λ g es q. find-at_element is_found k (run i e x) (λ c. refl) g es;
        on = λ w g es q. find-at_element (onto d w) k (run i e x) (λ c. h w c) g es;
      }

-- so an operation that o's deps don't cover doesn't lead o astray, nor back
pub astray_still : (p o : Operation) (D : Document) → covered o.deps p.id ≡ false → astray (apply p D) o ≡ astray D o
unfolding astray apply change
astray_still p o D u =
    ap not (look-at_key (elements_found o.deps o.way) p.top (run p.id p.deps p.way)
    (λ c. still_run o.deps p.id p.deps p.way u o.way c) o.top (makes p.way) D.root)
