-- An operation seen from a row on: what it does, adds and takes away among the rows that stand behind a place, the children of depth n
-- first. Rows that are shallower end what hangs under the place, and make no difference: `rows_within`, `change-within`, `found_within`.
-- So code goes down a way without looking for the end of each block.
-- Assumes nothing.
use Rattle.std.specs.Prelude.{ℕ, suc, ◌≡◌, Bool, ◌&&◌}
use Rattle.std.proofs.Common.{arith, ◌∙◌, le-ltb, ltb-false, ne_eqb}
use Rattle.std.proofs.Math.Path.{refl, sym, ap}
use Rattle.std.proofs.Math.Bool.{true, false, cond, not}
use mathlib.Core.List.{List, [], ◌∷◌, ◌++◌, append_assoc, append-nil}
use Rattle.meaning.specs.Ids.{covered}
use Rattle.meaning.specs.Ways.{Prev, head, after, Way, assign, delete, insert, into_map, into_list, Operation, deletes, makes}
use Rattle.meaning.specs.Sheet.{Spot, in_map, in_list, Row}
use Rattle.rows.specs.Blocks.{passed, rest, Block, join, map_row, list_row, deeper, is_id, is_greater, over, at}
use Rattle.rows.specs.Blocks.{on_block, change_here, seek_rows, at_key_rows, at_element_rows, step_on_rows, behind_rows, insert_rows}
use Rattle.rows.specs.Blocks.{give_block, passing_row, run_block, apply_rows}
use Rattle.rows.specs.Spans.{Shallow}
use Rattle.rows.specs.Locate.{nowhere, here, locate_here, locate, locate_key, locate_element, under_of, is_located}
use Rattle.rows.specs.Locate.{elements_found_rows, astray_rows}
use Rattle.rows.specs.Counting.{Change, no_change, both, new_change, passing_change, new_block, found_change, is_prev, run_change, change}

-- what an operation does among the rows behind a place
unfoldable pub under_rows : ℕ → List ℕ → ℕ → Way → List Row → List Row
under_rows i d n (assign a) rs = rs
under_rows i d n delete rs = rs
under_rows i d n (insert p a) rs = insert_rows n p i (join (give_block i d a (new_block n (in_list i)))) rs
under_rows i d n (into_map k w) rs = at_key_rows n (makes w) k (run_block i d n w) rs
under_rows i d n (into_list e w) rs = at_element_rows n e (run_block i d n w) rs

-- and what it adds and takes away there
unfoldable pub under_change : List ℕ → ℕ → Way → List Row → Change
under_change d n (assign a) rs = no_change
under_change d n delete rs = no_change
under_change d n (insert p a) rs = cond (is_prev n p rs) (new_change a) no_change
under_change d n (into_map k w) rs = found_change (run_change d n w) (makes w) n (in_map k) (locate_key n k rs)
under_change d n (into_list e w) rs = found_change (run_change d n w) false n (in_list e) (locate_element n e rs)

-- the way goes on
abbrev pub GoesOn : Way → Type 0
GoesOn (assign a) = ⊥
GoesOn delete = ⊥
GoesOn (insert p a) = Unit {0}
GoesOn (into_map k w) = Unit {0}
GoesOn (into_list e w) = Unit {0}

-- into the list, or into the map
abbrev pub of_list : Way → Bool
of_list (assign a) = false
of_list delete = false
of_list (insert p a) = true
of_list (into_map k w) = false
of_list (into_list e w) = true

-- the row of a place that the way goes on from
abbrev pub enter_row : ℕ → Way → Row → Row
enter_row i w r = cond (of_list w) (list_row (passing_row i w r)) (map_row (passing_row i w r))

pub run_under : (i : ℕ) (d : List ℕ) (n : ℕ) (w : Way) (b : Block) → GoesOn w
    → run_block i d n w b ≡ record { own = enter_row i w b.own; under = under_rows i d (suc n) w b.under }
unfolding run_block under_rows deletes
run_under i d n (assign a) b g = absurd g
run_under i d n delete b g = absurd g
run_under i d n (insert p a) b g = refl
run_under i d n (into_map k w) b g = refl
run_under i d n (into_list e w) b g = refl

pub run-change : (d : List ℕ) (n : ℕ) (w : Way) (b : Block) → GoesOn w
    → run_change d n w b ≡ both (passing_change w) (under_change d (suc n) w b.under)
unfolding run_change under_change deletes
run-change d n (assign a) b g = absurd g
run-change d n delete b g = absurd g
run-change d n (insert p a) b g = refl
run-change d n (into_map k w) b g = refl
run-change d n (into_list e w) b g = refl

-- from the root, whose children have depth 1
pub apply_under : (o : Operation) (rs : List Row) → apply_rows o rs ≡ under_rows o.id o.deps 1 (into_map o.top o.way) rs
unfolding apply_rows under_rows
apply_under o rs = refl

pub change_under : (o : Operation) (rs : List Row) → change o rs ≡ under_change o.deps 1 (into_map o.top o.way) rs
unfolding change under_change
change_under o rs = refl

pub astray_under : (o : Operation) (rs : List Row) → astray_rows o rs ≡ not (elements_found_rows o.deps 1 (into_map o.top o.way) rs)
unfolding astray_rows elements_found_rows
astray_under o rs = refl

-- what ends a block isn't deeper
pub shallow_rest : (n : ℕ) (R : List Row) → Shallow n (rest (deeper n) R)
unfolding rest
shallow_rest n [] = tt
shallow_rest n (r ∷ R) = go (deeper n r) refl (shallow_rest n R)
  where
    go : (b : Bool) → deeper n r ≡ b → Shallow n (rest (deeper n) R) → Shallow n (cond b (rest (deeper n) R) (r ∷ R))
    go true e h = h
    go false e h = ltb-false n r.depth e

-- A search stops at once.

abbrev Stops : (Row → Bool) → List Row → Type 0
Stops p [] = Unit {0}
Stops p (r ∷ rs) = p r ≡ false

module _ (p : Row → Bool) (R : List Row) (h : Stops p R) where
  none_passed : passed p R ≡ []
  unfolding passed
  none_passed = go R h
    where
      go : (R : List Row) → Stops p R → passed p R ≡ []
      go [] h = refl
      go (r ∷ rs) h = rw h

  all_rest : rest p R ≡ R
  unfolding rest
  all_rest = go R h
    where
      go : (R : List Row) → Stops p R → rest p R ≡ R
      go [] h = refl
      go (r ∷ rs) h = rw h

  pub passed-within : (us : List Row) → passed p (us ++ R) ≡ passed p us
  unfolding passed
  passed-within [] = none_passed
  passed-within (x ∷ us) = ap (λ xs. cond (p x) (x ∷ xs) []) (passed-within us)

  pub rest-within : (us : List Row) → rest p (us ++ R) ≡ rest p us ++ R
  unfolding rest
  rest-within [] = all_rest
  rest-within (x ∷ us) = go (p x) (rest-within us)
    where
      go : (b : Bool) → rest p (us ++ R) ≡ rest p us ++ R
          → cond b (rest p (us ++ R)) (x ∷ (us ++ R)) ≡ cond b (rest p us) (x ∷ us) ++ R
      go true e = e
      go false e = refl

pub stops_deeper : (n : ℕ) (R : List Row) → Shallow n R → Stops (deeper n) R
stops_deeper n [] h = tt
stops_deeper n (r ∷ rs) h = le-ltb n r.depth h

-- Rows behind a place whose children have depth suc n, and shallower ones behind them.

module _ (n : ℕ) (R : List Row) (h : Shallow n R) where
  stops_over : (pass : Spot → Bool) → Stops (over (suc n) pass) R
  stops_over pass = go R h
    where
      go : (R : List Row) → Shallow n R → Stops (over (suc n) pass) R
      go [] h = tt
      go (r ∷ rs) h = rw (le-ltb (suc n) r.depth (omega arith), ne_eqb r.depth (suc n) (λ e. omega (arith, e, h)))

  stops_under : Stops (deeper (suc n)) R
  stops_under = go R h
    where
      go : (R : List Row) → Shallow n R → Stops (deeper (suc n)) R
      go [] h = tt
      go (r ∷ rs) h = le-ltb (suc n) r.depth (omega arith)

  not_at : (meant : Spot → Bool) → Stops (at (suc n) meant) R
  not_at meant = go R h
    where
      go : (R : List Row) → Shallow n R → Stops (at (suc n) meant) R
      go [] h = tt
      go (r ∷ rs) h = rw (ne_eqb r.depth (suc n) (λ e. omega (arith, e, h)))

  module _ (meant : Spot → Bool) (f : Block → Block) (new : List Row) where
    here_within : (us : List Row) → change_here (suc n) meant f new (us ++ R) ≡ change_here (suc n) meant f new us ++ R
    unfolding change_here on_block
    here_within [] = go R (not_at meant)
      where
        go : (R : List Row) → Stops (at (suc n) meant) R → change_here (suc n) meant f new R ≡ new ++ R
        go [] s = sym (append-nil new)
        go (r ∷ rs) s = rw s
    here_within (x ∷ us) = go (at (suc n) meant x)
      where
        go : (b : Bool) → cond b (on_block (suc n) f x (us ++ R)) (new ++ x ∷ (us ++ R))
            ≡ cond b (on_block (suc n) f x us) (new ++ x ∷ us) ++ R
        go true =
            rw (passed-within (deeper (suc n)) R stops_under us, rest-within (deeper (suc n)) R stops_under us)
            (sym (append_assoc (join (f (record { own = x; under = passed (deeper (suc n)) us }))) (rest (deeper (suc n)) us) R))
        go false = sym (append_assoc new (x ∷ us) R)

    pub seek-within : (pass : Spot → Bool) (us : List Row)
        → seek_rows (suc n) pass meant f new (us ++ R) ≡ seek_rows (suc n) pass meant f new us ++ R
    unfolding seek_rows
    seek-within pass us =
        rw (passed-within (over (suc n) pass) R (stops_over pass) us, rest-within (over (suc n) pass) R (stops_over pass) us)
        (ap (passed (over (suc n) pass) us ++◌) (here_within (rest (over (suc n) pass) us))
        ∙ sym (append_assoc (passed (over (suc n) pass) us) (change_here (suc n) meant f new (rest (over (suc n) pass) us)) R))

  -- inserting
  module _ (e i : ℕ) (new : List Row) where
    behind-within : (us : List Row) → behind_rows (suc n) e i new (us ++ R) ≡ behind_rows (suc n) e i new us ++ R
    unfolding behind_rows step_on_rows
    behind-within [] = go R (not_at _)
      where
        go : (R : List Row) → Stops (at (suc n) (is_id e)) R → behind_rows (suc n) e i new R ≡ R
        go [] s = refl
        go (r ∷ rs) s = rw s
    behind-within (x ∷ us) = go (at (suc n) (is_id e) x)
      where
        next : List Row → List Row
        next rs = x ∷ (passed (deeper (suc n)) rs ++ step_on_rows (suc n) (is_greater i) new (rest (deeper (suc n)) rs))

        go : (b : Bool) → cond b (next (us ++ R)) (x ∷ (us ++ R)) ≡ cond b (next us) (x ∷ us) ++ R
        go true =
            rw (passed-within (deeper (suc n)) R stops_under us, rest-within (deeper (suc n)) R stops_under us)
            (ap (λ l. x ∷ (passed (deeper (suc n)) us ++ l)) (seek-within (λ p. false) (λ b. b) new _ (rest (deeper (suc n)) us))
            ∙ ap (x ∷◌) (sym (append_assoc (passed (deeper (suc n)) us) _ R)))
        go false = refl

  insert_within : (p : Prev) (i : ℕ) (new us : List Row)
      → insert_rows (suc n) p i new (us ++ R) ≡ insert_rows (suc n) p i new us ++ R
  unfolding insert_rows step_on_rows
  insert_within head i new us = seek-within (λ p. false) (λ b. b) new _ us
  insert_within (after e) i new us =
      let q = over (suc n) (λ p. not (is_id e p)) in
      rw (passed-within q R (stops_over _) us, rest-within q R (stops_over _) us)
      (ap (passed q us ++◌) (behind-within e i new (rest q us)) ∙ sym (append_assoc (passed q us) _ R))

  pub rows_within : (i : ℕ) (d : List ℕ) (w : Way) (us : List Row)
      → under_rows i d (suc n) w (us ++ R) ≡ under_rows i d (suc n) w us ++ R
  unfolding under_rows at_key_rows at_element_rows
  rows_within i d (assign a) us = refl
  rows_within i d delete us = refl
  rows_within i d (insert p a) us = insert_within p i _ us
  rows_within i d (into_map k w) us = seek-within _ _ _ _ us
  rows_within i d (into_list e w) us = seek-within _ _ _ _ us

  -- finding
  located_within : (meant : Spot → Bool) (us : List Row) → locate_here (suc n) meant (us ++ R) ≡ locate_here (suc n) meant us
  unfolding locate_here
  located_within meant [] = go R (not_at meant)
    where
      go : (R : List Row) → Stops (at (suc n) meant) R → locate_here (suc n) meant R ≡ nowhere
      go [] s = refl
      go (r ∷ rs) s = rw s
  located_within meant (x ∷ us) =
      ap (λ l. cond (at (suc n) meant x) (here (record { own = x; under = l })) nowhere) (passed-within (deeper (suc n)) R stops_under us)

  pub locate-within : (pass meant : Spot → Bool) (us : List Row) → locate (suc n) pass meant (us ++ R) ≡ locate (suc n) pass meant us
  unfolding locate
  locate-within pass meant us =
      ap (locate_here (suc n) meant) (rest-within (over (suc n) pass) R (stops_over pass) us)
      ∙ located_within meant (rest (over (suc n) pass) us)

  pub key_within : (k : List ℕ) (us : List Row) → locate_key (suc n) k (us ++ R) ≡ locate_key (suc n) k us
  unfolding locate_key
  key_within k us = locate-within _ _ us

  pub element_within : (e : ℕ) (us : List Row) → locate_element (suc n) e (us ++ R) ≡ locate_element (suc n) e us
  unfolding locate_element
  element_within e us = locate-within _ _ us

  pub change-within : (d : List ℕ) (w : Way) (us : List Row) → under_change d (suc n) w (us ++ R) ≡ under_change d (suc n) w us
  unfolding under_change
  change-within d (assign a) us = refl
  change-within d delete us = refl
  change-within d (insert head a) us = refl
  change-within d (insert (after e) a) us = ap (λ l. cond (is_located l) (new_change a) no_change) (element_within e us)
  change-within d (into_map k w) us = ap (found_change (run_change d (suc n) w) (makes w) (suc n) (in_map k)) (key_within k us)
  change-within d (into_list e w) us = ap (found_change (run_change d (suc n) w) false (suc n) (in_list e)) (element_within e us)

  pub found_within : (d : List ℕ) (w : Way) (us : List Row) → elements_found_rows d (suc n) w (us ++ R) ≡ elements_found_rows d (suc n) w us
  unfolding elements_found_rows
  found_within d (assign a) us = refl
  found_within d delete us = refl
  found_within d (insert head a) us = refl
  found_within d (insert (after e) a) us = ap (λ l. covered d e && is_located l) (element_within e us)
  found_within d (into_map k w) us = ap (λ l. elements_found_rows d (suc (suc n)) w (under_of l)) (key_within k us)
  found_within d (into_list e w) us =
      ap
      (λ l. covered d e && elim l as (λ l. Bool) [ nowhere ↦ false | here b ↦ elements_found_rows d (suc (suc n)) w b.under ])
      (element_within e us)
