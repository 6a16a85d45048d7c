-- Document 01, "Applying an operation": descend, assign, insert, delete.
-- Assumes nothing: these are definitions.
use Rattle.std.specs.Prelude.{ℕ, Bool, true, false, cond, List, [], ◌∷◌, ltb, eqb}
use Rattle.meaning.specs.Ids.{raise, zeros}
use Rattle.meaning.specs.Sets.{put}
use Rattle.meaning.specs.Places.{Plain, before, equal, beyond, order, Place, place, bare, Document}
use Rattle.meaning.specs.Places.{Children, childless, child, Elements, empty, element}
use Rattle.meaning.specs.Ways.{Assigned, plain, empty_map, empty_list, Prev, head, after}
use Rattle.meaning.specs.Ways.{Way, assign, delete, insert, into_map, into_list, Operation, deletes, makes}
use Rattle.meaning.specs.Clear.{clear_values, clear}

-- What is done at one place.

unfoldable pub mark : ℕ → Place → Place
mark i (place m l ms vs ks es) = place m l (put (λ k. k) i ms) vs ks es

-- the values with covered ids go
unfoldable pub drop_values : List ℕ → Place → Place
drop_values d (place m l ms vs ks es) = place m l ms (clear_values d vs) ks es

unfoldable pub add_value : ℕ → Plain → Place → Place
add_value i v (place m l ms vs ks es) = place m l ms (put (λ v. v.id) (record { id = i; val = v }) vs) ks es

-- a branch is entered: its flag is set, and what hangs under it is changed
unfoldable pub on_map : (Children → Children) → Place → Place
on_map f (place m l ms vs ks es) = place true l ms vs (f ks) es

unfoldable pub on_list : (Elements → Elements) → Place → Place
on_list f (place m l ms vs ks es) = place m true ms vs ks (f es)

-- Assign a plain value: the covered values go, the id is marked, the value is added; map, list and older marks stay. Assign an empty map or
-- list: the place is cleared, the id marked, the flag set.
unfoldable pub give : ℕ → List ℕ → Assigned → Place → Place
give i d (plain v) c = add_value i v (drop_values d (mark i c))
give i d empty_map c = on_map (λ ks. ks) (mark i (clear d c))
give i d empty_list c = on_list (λ es. es) (mark i (clear d c))

-- What is done under a branch.

-- the place under key k is changed; an unknown one is made first, if `new`
unfoldable pub at_key : Bool → List ℕ → (Place → Place) → Children → Children
at_key new k f childless = cond new (child k (f bare) childless) childless
at_key new k f (child j c ks) =
    elim (order k j) [
      | before ↦ cond new (child k (f bare) (child j c ks)) (child j c ks)
      | equal ↦ child j (f c) ks
      | beyond ↦ child j c (at_key new k f ks)
    ]

-- element e is changed
unfoldable pub at_element : ℕ → (Place → Place) → Elements → Elements
at_element e f empty = empty
at_element e f (element j c es) = elim (eqb e j) [ true ↦ element j (f c) es | false ↦ element j c (at_element e f es) ]

-- step on while the next element's id is greater than the new id i: the new element c stands there, before the first smaller one
unfoldable pub step_on : ℕ → Place → Elements → Elements
step_on i c empty = element i c empty
step_on i c (element j x es) = elim (ltb i j) [ true ↦ element j x (step_on i c es) | false ↦ element i c (element j x es) ]

-- the same from behind element e
unfoldable pub step_from : ℕ → ℕ → Place → Elements → Elements
step_from e i c empty = empty
step_from e i c (element j x es) = elim (eqb e j) [ true ↦ element j x (step_on i c es) | false ↦ element j x (step_from e i c es) ]

unfoldable pub insert_after : Prev → ℕ → Place → Elements → Elements
insert_after head i c es = step_on i c es
insert_after (after e) i c es = step_from e i c es

-- The whole operation.

-- a place on the way is marked, unless the operation is a delete
unfoldable pub passing : ℕ → Way → Place → Place
passing i w c = cond (deletes w) c (mark i c)

-- what operation i with deps d does at a place from which w is left of its way
unfoldable pub run : ℕ → List ℕ → Way → Place → Place
run i d (assign a) c = give i d a c
run i d delete c = clear d c
run i d (insert p a) c = on_list (insert_after p i (give i d a bare)) (mark i c)
run i d (into_map k w) c = on_map (at_key (makes w) k (run i d w)) (passing i w c)
run i d (into_list e w) c = on_list (at_element e (run i d w)) (passing i w c)

unfoldable pub change : Operation → Children → Children
change o ks = at_key (makes o.way) o.top (run o.id o.deps o.way) ks

unfoldable pub apply : Operation → Document → Document
apply o D = record { seen = raise D.seen o.id; root = change o D.root }

-- one after another
unfoldable pub apply_all : List Operation → Document → Document
apply_all [] D = D
apply_all (o ∷ os) D = apply_all os (apply o D)

abbrev pub empty_document : Document
empty_document = record { seen = zeros; root = childless }
