-- Document 01, answers 2, 3, 4, 8, 9: the tests of an operation, each by itself.
-- Assumes nothing: these are definitions.
use Rattle.std.specs.Prelude.{ℕ, Bool, true, false, not, ◌&&◌, List, leb, ltb, eqb}
use Rattle.meaning.specs.Ids.{counter_of, entry_of, entry, covered, all_below}
use Rattle.meaning.specs.Places.{before, equal, beyond, order, Place, Children, childless, child, Elements, empty, element}
use Rattle.meaning.specs.Places.{bare, children_of, elements_of, Document}
use Rattle.meaning.specs.Ways.{head, after, Way, assign, delete, insert, into_map, into_list, Operation}

-- 2: counter not above every deps entry
unfoldable pub not_above : Operation → Bool
not_above o = not (all_below (counter_of o.id) o.deps)

-- 3: counter not above seen entry r
unfoldable pub repeated : List ℕ → Operation → Bool
repeated s o = leb (counter_of o.id) (entry s (entry_of o.id))

-- 4: own deps entry below seen entry r
unfoldable pub own_deps_behind : List ℕ → Operation → Bool
own_deps_behind s o = ltb (entry o.deps (entry_of o.id)) (entry s (entry_of o.id))

-- the place under a key; an unknown one is bare, as it would be made
unfoldable pub look : List ℕ → Children → Place
look k childless = bare
look k (child j c ks) = elim (order k j) [ before ↦ bare | equal ↦ c | beyond ↦ look k ks ]

pub data Found : Type 0 where
  found : Place → Found
  unknown : Found

abbrev pub is_found : Found → Bool
is_found (found c) = true
is_found unknown = false

-- the element with an id
unfoldable pub find : ℕ → Elements → Found
find e empty = unknown
find e (element j c es) = elim (eqb e j) [ true ↦ found c | false ↦ find e es ]

-- each element id on the way is covered by deps and an element of that list
unfoldable pub elements_found : List ℕ → Way → Place → Bool
elements_found d (assign a) c = true
elements_found d delete c = true
elements_found d (insert head a) c = true
elements_found d (insert (after e) a) c = covered d e && is_found (find e (elements_of c))
elements_found d (into_map k w) c = elements_found d w (look k (children_of c))
elements_found d (into_list e w) c = covered d e && elim (find e (elements_of c)) [ found x ↦ elements_found d w x | unknown ↦ false ]

-- 8: an element id in the way isn't covered by deps, or isn't an element of that list
unfoldable pub astray : Document → Operation → Bool
astray D o = not (elements_found o.deps o.way (look o.top D.root))

-- an insert comes after the head, or after an element whose id is smaller
unfoldable pub upward : ℕ → Way → Bool
upward i (assign a) = true
upward i delete = true
upward i (insert head a) = true
upward i (insert (after e) a) = ltb e i
upward i (into_map k w) = upward i w
upward i (into_list e w) = upward i w

-- 9: insert after an element whose id is not smaller
unfoldable pub downward : Operation → Bool
downward o = not (upward o.id o.way)
