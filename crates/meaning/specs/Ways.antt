-- Document 01, "Applying an operation" and "Messages": operations and their ways. A way ends in what is done there, so that an illegal
-- one can't be written: `^` and an element id to insert after stand last, with an insert, after `[`; a delete has no value.
-- Assumes nothing: these are definitions.
use Rattle.std.specs.Prelude.{ℕ, suc, Bool, true, false, List}
use Rattle.meaning.specs.Places.{Plain}

-- what is assigned: a plain value, an empty map `{`, an empty list `[`
pub data Assigned : Type 0 where
  plain : Plain → Assigned
  empty_map empty_list : Assigned

-- what an insert comes after: the head, or an element
pub data Prev : Type 0 where
  head : Prev
  after : ℕ → Prev

-- what is left of a way, seen from a place on it: the end with its action, or a step into the map or the list
pub data Way : Type 0 where
  assign : Assigned → Way
  delete : Way
  insert : Prev → Assigned → Way
  into_map : List ℕ → Way → Way
  into_list : ℕ → Way → Way

-- the root is entered as a map: `top` is the way's first key
pub record Operation : Type 0 where
  pub id : ℕ
  pub deps : List ℕ
  pub top : List ℕ
  pub way : Way

-- the number of keys that follow the first, prev and `^` among them
unfoldable pub steps : Way → ℕ
steps (assign a) = 0
steps delete = 0
steps (insert p a) = 1
steps (into_map k w) = suc (steps w)
steps (into_list e w) = suc (steps w)

unfoldable pub deletes : Way → Bool
deletes (assign a) = false
deletes delete = true
deletes (insert p a) = false
deletes (into_map k w) = deletes w
deletes (into_list e w) = deletes w

-- whether the place that the way is seen from is made if it is unknown: each one on the way, and the target of an assign
unfoldable pub makes : Way → Bool
makes (assign a) = true
makes delete = false
makes (insert p a) = true
makes (into_map k w) = true
makes (into_list e w) = true
