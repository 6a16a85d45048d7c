-- Answer 10, before anything is changed: how many places, marks and values an operation adds and takes away, counted along its way on rows.
-- Theorem: what it leaves is what was there, and what it adds, less what it takes away.
-- Assumes nothing.
use Rattle.std.specs.Prelude.{ℕ, suc, ◌+◌, ◌-◌, ◌≡◌, Bool, true, false, cond, List, [], ◌∷◌, length}
use Rattle.meaning.specs.Clear.{clear_marks, clear_values}
use Rattle.meaning.specs.Ways.{Assigned, plain, empty_map, empty_list, Prev, head, after}
use Rattle.meaning.specs.Ways.{Way, assign, delete, insert, into_map, into_list, Operation, deletes, makes}
use Rattle.meaning.specs.Limits.{Size, plus, nothing}
use Rattle.meaning.specs.Members.{Has, own, id_of_value}
use Rattle.meaning.specs.Load.{marks_in, values_in}
use Rattle.meaning.specs.Sheet.{Spot, in_map, in_list, Row}
use Rattle.rows.specs.Blocks.{Block, join, new_row}
use Rattle.rows.specs.Locate.{Located, nowhere, here, locate_key, locate_element, is_located}

-- what comes and what goes
pub record Change : Type 0 where
  pub more : Size
  pub less : Size

abbrev pub no_change : Change
no_change = record { more = nothing; less = nothing }

abbrev pub both : Change → Change → Change
both a b = record { more = plus a.more b.more; less = plus a.less b.less }

-- places, marks and values that come
abbrev pub adds : ℕ → ℕ → ℕ → Change
adds p m v = record { more = record { places = p; marks = m; values = v }; less = nothing }

-- how many marks and values of some rows are covered
unfoldable pub gone_marks : List ℕ → List Row → ℕ
gone_marks d [] = 0
gone_marks d (r ∷ rs) = (length r.marks - length (clear_marks d r.marks)) + gone_marks d rs

unfoldable pub gone_values : List ℕ → List Row → ℕ
gone_values d [] = 0
gone_values d (r ∷ rs) = (length r.values - length (clear_values d r.values)) + gone_values d rs

abbrev pub clears : List ℕ → List Row → Change
clears d rs = record { more = nothing; less = record { places = 0; marks = gone_marks d rs; values = gone_values d rs } }

unfoldable pub give_change : List ℕ → Assigned → Block → Change
give_change d (plain v) b =
    both (adds 0 1 1) (record { more = nothing; less = record { places = 0; marks = 0; values = gone_values d (b.own ∷ []) } })
give_change d empty_map b = both (adds 0 1 0) (clears d (join b))
give_change d empty_list b = both (adds 0 1 0) (clears d (join b))

-- a new element: a place with a mark, and a value if it is a plain one
abbrev pub new_change : Assigned → Change
new_change (plain v) = adds 1 1 1
new_change empty_map = adds 1 1 0
new_change empty_list = adds 1 1 0

-- the mark on the way
abbrev pub passing_change : Way → Change
passing_change w = cond (deletes w) no_change (adds 0 1 0)

abbrev pub new_block : ℕ → Spot → Block
new_block n p = record { own = new_row n p; under = [] }

-- at a place that was found, or else at one that is made, if it is
abbrev pub found_change : (Block → Change) → Bool → ℕ → Spot → Located → Change
found_change f new n p (here b) = f b
found_change f new n p nowhere = cond new (both (adds 1 0 0) (f (new_block n p))) no_change

abbrev pub is_prev : ℕ → Prev → List Row → Bool
is_prev n head rs = true
is_prev n (after e) rs = is_located (locate_element n e rs)

unfoldable pub run_change : List ℕ → ℕ → Way → Block → Change
run_change d n (assign a) b = give_change d a b
run_change d n delete b = clears d (join b)
run_change d n (insert p a) b =
    both (adds 0 1 0) (cond (is_prev (suc n) p b.under) (new_change a) no_change)
run_change d n (into_map k w) b =
    both (passing_change w) (found_change (run_change d (suc n) w) (makes w) (suc n) (in_map k) (locate_key (suc n) k b.under))
run_change d n (into_list e w) b =
    both (passing_change w) (found_change (run_change d (suc n) w) false (suc n) (in_list e) (locate_element (suc n) e b.under))

-- of a whole operation
unfoldable pub change : Operation → List Row → Change
change o rs = found_change (run_change o.deps 1 o.way) (makes o.way) 1 (in_map o.top) (locate_key 1 o.top rs)

-- The balance.

-- the rows us are the rows rs with the change c
pub record Balance (rs us : List Row) (c : Change) : Type 0 where
  pub places : length us + c.less.places ≡ length rs + c.more.places
  pub marks : marks_in us + c.less.marks ≡ marks_in rs + c.more.marks
  pub values : values_in us + c.less.values ≡ values_in rs + c.more.values

-- the operation's id marks none of the rows yet, and none has its value
abbrev pub Fresh : ℕ → List Row → Type 0
Fresh i [] = Unit {0}
Fresh i (r ∷ rs) = (Has own i r.marks → ⊥) × (Has id_of_value i r.values → ⊥) × Fresh i rs
