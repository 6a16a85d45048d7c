-- The count of answer 10 is right: after an operation whose id marks nothing yet, each of places, marks and values is what it was, with
-- what `Counting` says comes, less what it says goes.
-- Assumes nothing.
use Rattle.std.specs.Prelude.{ℕ, suc, ◌+◌, ◌≡◌, refl, Bool, true, false, cond, not, ◌&&◌, eqb, length}
use Rattle.std.proofs.Common.{arith, sym, ap, ◌∙◌, inl, inr, length-append}
use Rattle.std.proofs.Math.Path.{subst}
use mathlib.Core.List.{List, [], ◌∷◌, ◌++◌}
use Rattle.meaning.specs.Sets.{keep, smaller, greater, put}
use Rattle.meaning.specs.Clear.{clear_marks, clear_values}
use Rattle.meaning.specs.Ways.{Assigned, plain, empty_map, empty_list, Prev, head, after}
use Rattle.meaning.specs.Ways.{Way, assign, delete, insert, into_map, into_list, Operation, deletes, makes}
use Rattle.meaning.specs.Members.{Has, own, id_of_value}
use Rattle.meaning.specs.Load.{marks_in, values_in}
use Rattle.meaning.specs.Sheet.{Spot, in_map, in_list, Row}
use Rattle.theorems.specs.Decide.{Tri, less, same, more, tri}
use Rattle.theorems.specs.Keep.{keep_nil, keep_yes, keep_no, smaller_yes, smaller_no, greater_yes, greater_no}
use Rattle.theorems.specs.Accepting.{marks_append, values-append}
use Rattle.rows.specs.Blocks.{passed, rest, Block, join, new_row, mark_row, deeper, is_key, key_below, is_id, is_greater}
use Rattle.rows.specs.Blocks.{over, at, on_block, change_here, seek_rows, made, at_key_rows, at_element_rows, step_on_rows, behind_rows}
use Rattle.rows.specs.Blocks.{insert_rows, give_block, passing_row, run_block, apply_rows}
use Rattle.rows.specs.Locate.{Located, nowhere, here, locate_here, locate, locate_key, locate_element, is_located}
use Rattle.rows.specs.Counting.{Change, no_change, both, adds, gone_marks, gone_values, give_change, new_change}
use Rattle.rows.specs.Counting.{passing_change, new_block}
use Rattle.rows.specs.Counting.{found_change, is_prev, run_change, change, Balance, Fresh}
use Rattle.rows.specs.Balanced.{clear_marks_length, fresh_clear, clear_values-length, fresh_clear_values, passed-rest, fresh_append, fresh_parts, clears_rows}

-- a new member is one more
put_length : {A : Type 0} (number : A → ℕ) (a : A) (xs : List A) → (Has number (number a) xs → ⊥)
    → length (put number a xs) ≡ suc (length xs)
unfolding put
put_length {A} number a xs n = length-append (keep (smaller number a) xs) _ ∙ omega (arith, parts xs n)
  where
    parts : (xs : List A) → (Has number (number a) xs → ⊥)
        → length (keep (smaller number a) xs) + length (keep (greater number a) xs) ≡ length xs
    parts [] n = rw (keep_nil (smaller number a), keep_nil (greater number a))
    parts (x ∷ xs) n = go (tri (number x) (number a)) (parts xs (λ h. n (inr h)))
      where
        go : Tri (number x) (number a) → length (keep (smaller number a) xs) + length (keep (greater number a) xs) ≡ length xs
            → length (keep (smaller number a) (x ∷ xs)) + length (keep (greater number a) (x ∷ xs)) ≡ suc (length xs)
        go (less p) r =
            rw (
              keep_yes (smaller number a) x xs (smaller_yes number a x p),
              keep_no (greater number a) x xs (greater_no number a x (omega arith)),
            )
            (omega arith)
        go (same p) r = absurd (n (inl (sym p)))
        go (more p) r =
            rw (
              keep_no (smaller number a) x xs (smaller_no number a x (omega arith)),
              keep_yes (greater number a) x xs (greater_yes number a x p),
            )
            (omega arith)

-- Putting balances together.

balance_same : (rs : List Row) → Balance rs rs no_change
balance_same rs = record { places = refl; marks = refl; values = refl }

balance_append : (xs us ys ws : List Row) (a b : Change) → Balance xs us a → Balance ys ws b → Balance (xs ++ ys) (us ++ ws) (both a b)
balance_append xs us ys ws a b p q = record {
  places = omega (arith, length-append xs ys, length-append us ws, p.places, q.places);
  marks = omega (arith, marks_append xs ys, marks_append us ws, p.marks, q.marks);
  values = omega (arith, values-append xs ys, values-append us ws, p.values, q.values);
}

-- rows that stay, before and behind
balance_between : (xs rs us ys : List Row) (c : Change) → Balance rs us c → Balance (xs ++ (rs ++ ys)) (xs ++ (us ++ ys)) c
balance_between xs rs us ys c p = record {
  places = omega (arith, length-append xs (rs ++ ys), length-append xs (us ++ ys), length-append rs ys, length-append us ys, p.places);
  marks = omega (arith, marks_append xs (rs ++ ys), marks_append xs (us ++ ys), marks_append rs ys, marks_append us ys, p.marks);
  values = omega (arith, values-append xs (rs ++ ys), values-append xs (us ++ ys), values-append rs ys, values-append us ys, p.values);
}

balance_front : (xs rs us : List Row) (c : Change) → Balance rs us c → Balance (xs ++ rs) (xs ++ us) c
balance_front xs rs us c p = record {
  places = omega (arith, length-append xs rs, length-append xs us, p.places);
  marks = omega (arith, marks_append xs rs, marks_append xs us, p.marks);
  values = omega (arith, values-append xs rs, values-append xs us, p.values);
}

-- At one place.

give_balance : (i : ℕ) (d : List ℕ) (a : Assigned) (b : Block) → Fresh i (join b)
    → Balance (join b) (join (give_block i d a b)) (give_change d a b)
unfolding give_block give_change marks_in values_in gone_marks gone_values
give_balance i d (plain v) b f =
    let r = b.own in
    let m = put_length own i r.marks f.0 in
    let w = put_length id_of_value (record { id = i; val = v }) (clear_values d r.values) (fresh_clear_values d r i f.1) in
    let l = clear_values-length d r in
    record { places = omega arith; marks = omega (arith, m); values = omega (arith, w, l) }
give_balance i d empty_map b f =
    let r = b.own in
    let m = put_length own i (clear_marks d r.marks) (fresh_clear d r.marks i f.0) in
    let h = clears_rows d b.under in
    record {
      places = omega (arith, h.places);
      marks = omega (arith, m, h.marks, clear_marks_length d r.marks);
      values = omega (arith, h.values, clear_values-length d r);
    }
give_balance i d empty_list b f =
    let r = b.own in
    let m = put_length own i (clear_marks d r.marks) (fresh_clear d r.marks i f.0) in
    let h = clears_rows d b.under in
    record {
      places = omega (arith, h.places);
      marks = omega (arith, m, h.marks, clear_marks_length d r.marks);
      values = omega (arith, h.values, clear_values-length d r);
    }

-- Where a search stops.

module _ (i n : ℕ) (pass meant : Spot → Bool) (f : Block → Block) (c : Block → Change) (new : List Row) (cn : Change)
    (h : (b : Block) → Fresh i (join b) → Balance (join b) (join (f b)) (c b)) (k : Balance [] new cn) where
  abbrev at_found : Located → Change
  at_found (here b) = c b
  at_found nowhere = cn

  here_balance : (rs : List Row) → Fresh i rs → Balance rs (change_here n meant f new rs) (at_found (locate_here n meant rs))
  unfolding change_here locate_here on_block
  here_balance [] g = k
  here_balance (r ∷ rs) g = go (at n meant r)
    where
      b : Block
      b = record { own = r; under = passed (deeper n) rs }

      go : (t : Bool) → Balance (r ∷ rs) (cond t (join (f b) ++ rest (deeper n) rs) (new ++ r ∷ rs)) (at_found (cond t (here b) nowhere))
      go true =
          let e = passed-rest (deeper n) rs in
          let g' = fresh_append i (join b) (rest (deeper n) rs) (subst (λ us. Fresh i (r ∷ us)) (sym e) g) in
          subst (λ us. Balance (r ∷ us) (join (f b) ++ rest (deeper n) rs) (c b)) e
          (balance_between [] (join b) (join (f b)) (rest (deeper n) rs) (c b) (h b g'.0))
      go false = balance_between [] [] new (r ∷ rs) cn k

  seek_balance : (rs : List Row) → Fresh i rs → Balance rs (seek_rows n pass meant f new rs) (at_found (locate n pass meant rs))
  unfolding seek_rows locate
  seek_balance rs g =
      let p = over n pass in
      let a = here_balance (rest p rs) (fresh_parts i p rs g).1 in
      subst (λ xs. Balance xs (seek_rows n pass meant f new rs) (at_found (locate n pass meant rs))) (passed-rest p rs)
      (balance_front (passed p rs) (rest p rs) _ _ a)

-- New rows before the first that isn't passed over.

and_no : (b : Bool) → (b && false) ≡ false
and_no true = refl
and_no false = refl

step_balance : (n : ℕ) (pass : Spot → Bool) (new : List Row) (cn : Change) → Balance [] new cn → (rs : List Row)
    → Balance rs (step_on_rows n pass new rs) cn
unfolding step_on_rows seek_rows change_here
step_balance n pass new cn k rs =
    let p = over n pass in
    subst (λ xs. Balance xs (passed p rs ++ change_here n (λ p. false) (λ b. b) new (rest p rs)) cn) (passed-rest p rs)
    (balance_front (passed p rs) (rest p rs) _ cn (go (rest p rs)))
  where
    go : (rs : List Row) → Balance rs (change_here n (λ p. false) (λ b. b) new rs) cn
    go [] = k
    go (r ∷ rs) = rw (and_no (eqb r.depth n)) (balance_between [] [] new (r ∷ rs) cn k)

behind_balance : (n e i : ℕ) (new : List Row) (cn : Change) → Balance [] new cn → (rs : List Row)
    → Balance rs (behind_rows n e i new rs) (cond (is_located (locate_here n (is_id e) rs)) cn no_change)
unfolding behind_rows locate_here
behind_balance n e i new cn k [] = balance_same []
behind_balance n e i new cn k (r ∷ rs) = go (at n (is_id e) r)
  where
    go : (t : Bool) → Balance (r ∷ rs) (cond t (r ∷ (passed (deeper n) rs ++ step_on_rows n (is_greater i) new (rest (deeper n) rs))) (r ∷ rs))
        (cond (is_located (cond t (here (record { own = r; under = passed (deeper n) rs })) nowhere)) cn no_change)
    go true =
        subst (λ us. Balance (r ∷ us) (r ∷ (passed (deeper n) rs ++ step_on_rows n (is_greater i) new (rest (deeper n) rs))) cn)
        (passed-rest (deeper n) rs)
        (balance_front (r ∷ passed (deeper n) rs) (rest (deeper n) rs) _ cn (step_balance n (is_greater i) new cn k (rest (deeper n) rs)))
    go false = balance_same (r ∷ rs)

insert_balance : (n i : ℕ) (p : Prev) (new : List Row) (cn : Change) → Balance [] new cn → (rs : List Row)
    → Balance rs (insert_rows n p i new rs) (cond (is_prev n p rs) cn no_change)
unfolding insert_rows locate_element locate
insert_balance n i head new cn k rs = step_balance n _ new cn k rs
insert_balance n i (after e) new cn k rs =
    let p = over n (λ p. not (is_id e p)) in
    subst (λ xs. Balance xs (passed p rs ++ behind_rows n e i new (rest p rs)) (cond (is_prev n (after e) rs) cn no_change)) (passed-rest p rs)
    (balance_front (passed p rs) (rest p rs) _ _ (behind_balance n e i new cn k (rest p rs)))

-- The operation.

-- a block whose own row and whose rows below change
balance_block : (r q : Row) (us ws : List Row) (a c : Change) → Balance (r ∷ []) (q ∷ []) a → Balance us ws c
    → Balance (r ∷ us) (q ∷ ws) (both a c)
balance_block r q us ws a c p h = balance_append (r ∷ []) (q ∷ []) us ws a c p h

mark_balance : (i : ℕ) (r q : Row) → length q.marks ≡ suc (length r.marks) → q.values ≡ r.values
    → Balance (r ∷ []) (q ∷ []) (adds 0 1 0)
unfolding marks_in values_in
mark_balance i r q m v = record { places = refl; marks = omega (arith, m); values = omega (arith, ap length v) }

same_balance : (r q : Row) → q.marks ≡ r.marks → q.values ≡ r.values → Balance (r ∷ []) (q ∷ []) no_change
unfolding marks_in values_in
same_balance r q m v = record { places = refl; marks = omega (arith, ap length m); values = omega (arith, ap length v) }

passing_balance : (i : ℕ) (w : Way) (r q : Row) → (Has own i r.marks → ⊥) → q.marks ≡ (passing_row i w r).marks → q.values ≡ r.values
    → Balance (r ∷ []) (q ∷ []) (passing_change w)
passing_balance i w r q f m v = go (deletes w) m
  where
    go : (b : Bool) → q.marks ≡ (cond b r (mark_row i r)).marks → Balance (r ∷ []) (q ∷ []) (cond b no_change (adds 0 1 0))
    go true m = same_balance r q m v
    go false m = mark_balance i r q (ap length m ∙ put_length own i r.marks f) v

passing-values : (i : ℕ) (w : Way) (r : Row) → (passing_row i w r).values ≡ r.values
passing-values i w r = go (deletes w)
  where
    go : (b : Bool) → (cond b r (mark_row i r)).values ≡ r.values
    go true = refl
    go false = refl

-- a new place is one more place
new_balance : (n : ℕ) (p : Spot) (us : List Row) (c : Change) → Balance (new_row n p ∷ []) us c → Balance [] us (both (adds 1 0 0) c)
unfolding marks_in values_in
new_balance n p us c h = record {
  places = omega (arith, h.places);
  marks = omega (arith, h.marks);
  values = omega (arith, h.values);
}

made_balance : (new : Bool) (n : ℕ) (p : Spot) (f : Block → Block) (c : Block → Change)
    → Balance (join (new_block n p)) (join (f (new_block n p))) (c (new_block n p))
    → Balance [] (made new n p f) (cond new (both (adds 1 0 0) (c (new_block n p))) no_change)
made_balance true n p f c h = new_balance n p (join (f (new_block n p))) (c (new_block n p)) h
made_balance false n p f c h = balance_same []

found_same : (i n : ℕ) (pass meant : Spot → Bool) (f : Block → Block) (c : Block → Change) (new : Bool) (p : Spot) (us : List Row)
    (h : (b : Block) → Fresh i (join b) → Balance (join b) (join (f b)) (c b))
    (k : Balance [] us (cond new (both (adds 1 0 0) (c (new_block n p))) no_change)) (l : Located)
    → at_found i n pass meant f c us (cond new (both (adds 1 0 0) (c (new_block n p))) no_change) h k l ≡ found_change c new n p l
found_same i n pass meant f c new p us h k nowhere = refl
found_same i n pass meant f c new p us h k (here b) = refl

-- under a branch: the place is found, or made
found_balance : (i n : ℕ) (pass meant : Spot → Bool) (f : Block → Block) (c : Block → Change) (new : Bool) (p : Spot)
    → ((b : Block) → Fresh i (join b) → Balance (join b) (join (f b)) (c b)) → (rs : List Row) → Fresh i rs
    → Balance rs (seek_rows n pass meant f (made new n p f) rs) (found_change c new n p (locate n pass meant rs))
found_balance i n pass meant f c new p h rs g =
    let none : Fresh i (join (new_block n p)) = ((λ u. u), (λ u. u), tt) in
    let k = made_balance new n p f c (h (new_block n p) none) in
    subst (Balance rs (seek_rows n pass meant f (made new n p f) rs)) (found_same i n pass meant f c new p _ h k (locate n pass meant rs))
    (seek_balance i n pass meant f c (made new n p f) _ h k rs g)

-- a new element
element_balance : (i : ℕ) (d : List ℕ) (a : Assigned) (n : ℕ) → Balance [] (join (give_block i d a (new_block n (in_list i)))) (new_change a)
unfolding give_change marks_in values_in gone_marks gone_values
element_balance i d a n = go a (give_balance i d a (new_block n (in_list i)) ((λ u. u), (λ u. u), tt))
  where
    go : (a : Assigned)
        → Balance (join (new_block n (in_list i))) (join (give_block i d a (new_block n (in_list i)))) (give_change d a (new_block n (in_list i)))
        → Balance [] (join (give_block i d a (new_block n (in_list i)))) (new_change a)
    go (plain v) h = record { places = omega (arith, h.places); marks = omega (arith, h.marks); values = omega (arith, h.values) }
    go empty_map h = record { places = omega (arith, h.places); marks = omega (arith, h.marks); values = omega (arith, h.values) }
    go empty_list h = record { places = omega (arith, h.places); marks = omega (arith, h.marks); values = omega (arith, h.values) }

pub run_balance : (i : ℕ) (d : List ℕ) (w : Way) (n : ℕ) (b : Block) → Fresh i (join b)
    → Balance (join b) (join (run_block i d n w b)) (run_change d n w b)
unfolding run_block run_change at_key_rows at_element_rows locate_key locate_element
run_balance i d (assign a) n b f = give_balance i d a b f
run_balance i d delete n b f = clears_rows d (join b)
run_balance i d (insert p a) n b f =
    let new = new_block (suc n) (in_list i) in
    balance_block b.own _ b.under _ (adds 0 1 0) _
    (mark_balance i b.own _ (put_length own i b.own.marks f.0) refl)
    (insert_balance (suc n) i p (join (give_block i d a new)) (new_change a) (element_balance i d a (suc n)) b.under)
run_balance i d (into_map k w) n b f =
    balance_block b.own _ b.under _ (passing_change w) _ (passing_balance i w b.own _ f.0 refl (passing-values i w b.own))
    (found_balance i (suc n) (key_below k) (is_key k) (run_block i d (suc n) w) (run_change d (suc n) w) (makes w) (in_map k)
    (λ b g. run_balance i d w (suc n) b g) b.under f.2)
run_balance i d (into_list e w) n b f =
    balance_block b.own _ b.under _ (passing_change w) _ (passing_balance i w b.own _ f.0 refl (passing-values i w b.own))
    (found_balance i (suc n) (λ p. not (is_id e p)) (is_id e) (run_block i d (suc n) w) (run_change d (suc n) w) false (in_list e)
    (λ b g. run_balance i d w (suc n) b g) b.under f.2)

-- what an operation leaves is what was there, with what comes, less what goes
pub apply_balance : (o : Operation) (rs : List Row) → Fresh o.id rs → Balance rs (apply_rows o rs) (change o rs)
unfolding apply_rows change at_key_rows locate_key
apply_balance o rs g =
    found_balance o.id 1 (key_below o.top) (is_key o.top) (run_block o.id o.deps 1 o.way) (run_change o.deps 1 o.way)
    (makes o.way) (in_map o.top) (λ b f. run_balance o.id o.deps o.way 1 b f) rs g
