-- The operation on rows. The sheet, and the tables in memory, are the list of a document's rows; this is what an operation does to it.
-- A place is its own row and, right behind it, the rows of what hangs under it, all of them deeper. Theorem (proofs/Follows): applying an
-- operation to a document and then listing its rows is the same as listing them first and operating on the list.
-- Assumes nothing: these are definitions.
use Rattle.std.specs.Prelude.{ℕ, suc, Bool, true, false, cond, not, ◌&&◌, ◌||◌, List, [], ◌∷◌, ◌++◌, map, ltb, eqb}
use Rattle.meaning.specs.Sets.{put}
use Rattle.meaning.specs.Clear.{clear_marks, clear_values}
use Rattle.meaning.specs.Places.{Plain, before, equal, beyond, order}
use Rattle.meaning.specs.Ways.{Assigned, plain, empty_map, empty_list, Prev, head, after}
use Rattle.meaning.specs.Ways.{Way, assign, delete, insert, into_map, into_list, Operation, deletes, makes}
use Rattle.meaning.specs.Sheet.{Spot, in_map, in_list, Row}

-- the rows at the start that pass a test, and the rest
unfoldable pub passed : (Row → Bool) → List Row → List Row
passed p [] = []
passed p (r ∷ rs) = cond (p r) (r ∷ passed p rs) []

unfoldable pub rest : (Row → Bool) → List Row → List Row
rest p [] = []
rest p (r ∷ rs) = cond (p r) (rest p rs) (r ∷ rs)

pub record Block : Type 0 where
  pub own : Row
  pub under : List Row

abbrev pub join : Block → List Row
join b = b.own ∷ b.under

-- What is done at one row.

abbrev pub new_row : ℕ → Spot → Row
new_row n p = record { depth = n; spot = p; map = false; list = false; marks = []; values = [] }

abbrev pub mark_row : ℕ → Row → Row
mark_row i r =
    record { depth = r.depth; spot = r.spot; map = r.map; list = r.list; marks = put (λ k. k) i r.marks; values = r.values }

abbrev pub drop_row : List ℕ → Row → Row
drop_row d r =
    record { depth = r.depth; spot = r.spot; map = r.map; list = r.list; marks = r.marks; values = clear_values d r.values }

abbrev pub add_row : ℕ → Plain → Row → Row
add_row i v r = record {
  depth = r.depth;
  spot = r.spot;
  map = r.map;
  list = r.list;
  marks = r.marks;
  values = put (λ v. v.id) (record { id = i; val = v }) r.values;
}

abbrev pub map_row : Row → Row
map_row r = record { depth = r.depth; spot = r.spot; map = true; list = r.list; marks = r.marks; values = r.values }

abbrev pub list_row : Row → Row
list_row r = record { depth = r.depth; spot = r.spot; map = r.map; list = true; marks = r.marks; values = r.values }

abbrev pub clear_row : List ℕ → Row → Row
clear_row d r = record {
  depth = r.depth;
  spot = r.spot;
  map = r.map;
  list = r.list;
  marks = clear_marks d r.marks;
  values = clear_values d r.values;
}

-- Finding a row among those under a place with children of depth n: which rows are passed over.

-- what is deeper hangs under a row that was passed
abbrev pub deeper : ℕ → Row → Bool
deeper n r = ltb n r.depth

abbrev pub key_below : List ℕ → Spot → Bool
key_below k (in_map j) = elim (order k j) [ before ↦ false | equal ↦ false | beyond ↦ true ]
key_below k (in_list i) = false

abbrev pub is_key : List ℕ → Spot → Bool
is_key k (in_map j) = elim (order k j) [ before ↦ false | equal ↦ true | beyond ↦ false ]
is_key k (in_list i) = false

abbrev pub is_id : ℕ → Spot → Bool
is_id e (in_map j) = false
is_id e (in_list i) = eqb e i

abbrev pub is_greater : ℕ → Spot → Bool
is_greater e (in_map j) = false
is_greater e (in_list i) = ltb e i

abbrev pub in_a_map : Spot → Bool
in_a_map (in_map j) = true
in_a_map (in_list i) = false

-- rows deeper than n, and of depth n those whose spot passes the test
abbrev pub over : ℕ → (Spot → Bool) → Row → Bool
over n test r = deeper n r || (eqb r.depth n && test r.spot)

-- a row of depth n whose spot is meant
abbrev pub at : ℕ → (Spot → Bool) → Row → Bool
at n test r = eqb r.depth n && test r.spot

-- What is done under a branch.

-- the block at the start is changed
unfoldable pub on_block : ℕ → (Block → Block) → Row → List Row → List Row
on_block n f r rs = join (f (record { own = r; under = passed (deeper n) rs })) ++ rest (deeper n) rs

-- the block at the start is changed if it is the one that is meant; if not, the rows `new` come before it
unfoldable pub change_here : ℕ → (Spot → Bool) → (Block → Block) → List Row → List Row → List Row
change_here n meant f new [] = new
change_here n meant f new (r ∷ rs) = cond (at n meant r) (on_block n f r rs) (new ++ r ∷ rs)

-- the same from the first row on that isn't passed over
unfoldable pub seek_rows : ℕ → (Spot → Bool) → (Spot → Bool) → (Block → Block) → List Row → List Row → List Row
seek_rows n pass meant f new rs = passed (over n pass) rs ++ change_here n meant f new (rest (over n pass) rs)

-- the place under a key; an unknown one is made first, if `new`
abbrev pub made : Bool → ℕ → Spot → (Block → Block) → List Row
made new n p f = cond new (join (f (record { own = new_row n p; under = [] }))) []

unfoldable pub at_key_rows : ℕ → Bool → List ℕ → (Block → Block) → List Row → List Row
at_key_rows n new k f rs = seek_rows n (key_below k) (is_key k) f (made new n (in_map k) f) rs

-- element e
unfoldable pub at_element_rows : ℕ → ℕ → (Block → Block) → List Row → List Row
at_element_rows n e f rs = seek_rows n (λ p. not (is_id e p)) (is_id e) f [] rs

-- the new rows come before the first row that isn't passed over
unfoldable pub step_on_rows : ℕ → (Spot → Bool) → List Row → List Row → List Row
step_on_rows n pass new rs = seek_rows n pass (λ p. false) (λ b. b) new rs

-- behind element e, which stands at the start
unfoldable pub behind_rows : ℕ → ℕ → ℕ → List Row → List Row → List Row
behind_rows n e i new [] = []
behind_rows n e i new (r ∷ rs) =
    cond (at n (is_id e) r) (r ∷ (passed (deeper n) rs ++ step_on_rows n (is_greater i) new (rest (deeper n) rs))) (r ∷ rs)

-- from the head, the map's rows are passed over too
unfoldable pub insert_rows : ℕ → Prev → ℕ → List Row → List Row → List Row
insert_rows n head i new rs = step_on_rows n (λ p. in_a_map p || is_greater i p) new rs
insert_rows n (after e) i new rs =
    passed (over n (λ p. not (is_id e p))) rs ++ behind_rows n e i new (rest (over n (λ p. not (is_id e p))) rs)

-- The operation.

unfoldable pub give_block : ℕ → List ℕ → Assigned → Block → Block
give_block i d (plain v) b = record { own = add_row i v (drop_row d (mark_row i b.own)); under = b.under }
give_block i d empty_map b = record { own = map_row (mark_row i (clear_row d b.own)); under = map (clear_row d) b.under }
give_block i d empty_list b = record { own = list_row (mark_row i (clear_row d b.own)); under = map (clear_row d) b.under }

abbrev pub passing_row : ℕ → Way → Row → Row
passing_row i w r = cond (deletes w) r (mark_row i r)

-- n is the depth of the block's own row
unfoldable pub run_block : ℕ → List ℕ → ℕ → Way → Block → Block
run_block i d n (assign a) b = give_block i d a b
run_block i d n delete b = record { own = clear_row d b.own; under = map (clear_row d) b.under }
run_block i d n (insert p a) b = record {
  own = list_row (mark_row i b.own);
  under = insert_rows (suc n) p i (join (give_block i d a (record { own = new_row (suc n) (in_list i); under = [] }))) b.under;
}
run_block i d n (into_map k w) b = record {
  own = map_row (passing_row i w b.own);
  under = at_key_rows (suc n) (makes w) k (run_block i d (suc n) w) b.under;
}
run_block i d n (into_list e w) b = record {
  own = list_row (passing_row i w b.own);
  under = at_element_rows (suc n) e (run_block i d (suc n) w) b.under;
}

unfoldable pub apply_rows : Operation → List Row → List Row
apply_rows o rs = at_key_rows 1 (makes o.way) o.top (run_block o.id o.deps 1 o.way) rs
