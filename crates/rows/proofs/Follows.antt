-- Applying an operation and listing the rows is the same either way round.
-- Assumes nothing.
use Rattle.std.specs.Prelude.{ℕ, suc, ◌≡◌, refl, Bool, true, false, cond, List, [], ◌∷◌, ◌++◌, map}
use Rattle.std.proofs.Common.{sym, ap, ap₂, ◌∙◌, append-nil}
use Rattle.meaning.specs.Places.{Place, place, bare, children_of, elements_of, Document}
use Rattle.meaning.specs.Places.{Children, childless, child, Elements, empty, element}
use Rattle.meaning.specs.Ways.{Assigned, plain, empty_map, empty_list}
use Rattle.meaning.specs.Ways.{Way, assign, delete, insert, into_map, into_list, Operation, deletes, makes}
use Rattle.meaning.specs.Clear.{clear, clear_children, clear_elements}
use Rattle.meaning.specs.Apply.{mark, drop_values, add_value, on_map, on_list, give, at_key, at_element, insert_after}
use Rattle.meaning.specs.Apply.{passing, run, change, apply}
use Rattle.meaning.specs.Sheet.{Spot, in_map, in_list, Row, row_of, rows, rows_children, rows_elements, rows_of}
use Rattle.rows.specs.Blocks.{Block, join, new_row, mark_row, map_row, list_row, clear_row}
use Rattle.rows.specs.Blocks.{at_key_rows, at_element_rows, insert_rows}
use Rattle.rows.specs.Blocks.{give_block, passing_row, run_block, apply_rows}
use Rattle.rows.specs.Seeking.{block_of, Simulates}
use Rattle.rows.specs.AtKeys.{key_rows}
use Rattle.rows.specs.AtElements.{element_rows, insert_rows_lem}

-- Clearing.

clear_row_lem : (d : List ℕ) (n : ℕ) (p : Spot) (c : Place) → clear_row d (row_of n p c) ≡ row_of n p (clear d c)
unfolding clear
clear_row_lem d n p (place m l ms vs ks es) = refl

map-append : {A B : Type 0} (f : A → B) (xs ys : List A) → map f (xs ++ ys) ≡ map f xs ++ map f ys
map-append f [] ys = refl
map-append f (x ∷ xs) ys = ap (f x ∷◌) (map-append f xs ys)

mutual
  unfolding clear rows

  clear_rows : (d : List ℕ) (n : ℕ) (c : Place) → map (clear_row d) (rows n c) ≡ rows n (clear d c)
  clear_rows d n (place m l ms vs ks es) =
      map-append (clear_row d) (rows_children n ks) (rows_elements n es) ∙ ap₂ ◌++◌ (clear_children_lem d n ks) (clear_elements_lem d n es)

  clear_children_lem : (d : List ℕ) (n : ℕ) (ks : Children) → map (clear_row d) (rows_children n ks) ≡ rows_children n (clear_children d ks)
  clear_children_lem d n childless = refl
  clear_children_lem d n (child k c ks) =
      ap₂ ◌∷◌ (clear_row_lem d n (in_map k) c)
      (map-append (clear_row d) (rows (suc n) c) (rows_children n ks) ∙ ap₂ ◌++◌ (clear_rows d (suc n) c) (clear_children_lem d n ks))

  clear_elements_lem : (d : List ℕ) (n : ℕ) (es : Elements) → map (clear_row d) (rows_elements n es) ≡ rows_elements n (clear_elements d es)
  clear_elements_lem d n empty = refl
  clear_elements_lem d n (element i c es) =
      ap₂ ◌∷◌ (clear_row_lem d n (in_list i) c)
      (map-append (clear_row d) (rows (suc n) c) (rows_elements n es) ∙ ap₂ ◌++◌ (clear_rows d (suc n) c) (clear_elements_lem d n es))

-- The operation.

block_eq : (a b : Block) → a.own ≡ b.own → a.under ≡ b.under → a ≡ b
block_eq a b p q = λ i. record { own = p i; under = q i }

give_block_lem : (i : ℕ) (d : List ℕ) (a : Assigned) (n : ℕ) → Simulates n (give i d a) (give_block i d a)
unfolding give give_block mark drop_values add_value on_map on_list clear rows
give_block_lem i d (plain v) n p (place m l ms vs ks es) = refl
give_block_lem i d empty_map n p (place m l ms vs ks es) = block_eq _ _ refl (clear_rows d (suc n) (place m l ms vs ks es))
give_block_lem i d empty_list n p (place m l ms vs ks es) = block_eq _ _ refl (clear_rows d (suc n) (place m l ms vs ks es))

passing_row_lem : (i : ℕ) (w : Way) (n : ℕ) (p : Spot) (c : Place) → passing_row i w (row_of n p c) ≡ row_of n p (passing i w c)
unfolding passing mark
passing_row_lem i w n p (place m l ms vs ks es) = go (deletes w)
  where
    c : Place
    c = place m l ms vs ks es

    go : (b : Bool) → cond b (row_of n p c) (mark_row i (row_of n p c)) ≡ row_of n p (cond b c (mark i c))
    go true = refl
    go false = refl

-- entering a branch of a place that is passed
into-map : (i n : ℕ) (w : Way) (p : Spot) (c : Place) (f : Children → Children) (us : List Row)
    → us ≡ rows_children (suc n) (f (children_of c)) ++ rows_elements (suc n) (elements_of c)
    → record { own = map_row (passing_row i w (row_of n p c)); under = us } ≡ block_of n p (on_map f (passing i w c))
unfolding on_map passing mark rows
into-map i n w p (place m l ms vs ks es) f us e = go (deletes w)
  where
    c : Place
    c = place m l ms vs ks es

    go : (b : Bool) → ◌≡◌ {A = Block} (record { own = map_row (cond b (row_of n p c) (mark_row i (row_of n p c))); under = us })
        (block_of n p (on_map f (cond b c (mark i c))))
    go true = block_eq _ _ refl e
    go false = block_eq _ _ refl e

into_list_lem : (i n : ℕ) (w : Way) (p : Spot) (c : Place) (f : Elements → Elements) (us : List Row)
    → us ≡ rows_children (suc n) (children_of c) ++ rows_elements (suc n) (f (elements_of c))
    → record { own = list_row (passing_row i w (row_of n p c)); under = us } ≡ block_of n p (on_list f (passing i w c))
unfolding on_list passing mark rows
into_list_lem i n w p (place m l ms vs ks es) f us e = go (deletes w)
  where
    c : Place
    c = place m l ms vs ks es

    go : (b : Bool) → ◌≡◌ {A = Block} (record { own = list_row (cond b (row_of n p c) (mark_row i (row_of n p c))); under = us })
        (block_of n p (on_list f (cond b c (mark i c))))
    go true = block_eq _ _ refl e
    go false = block_eq _ _ refl e

under_rows_lem : (n : ℕ) (c : Place) → rows n c ≡ rows_children n (children_of c) ++ rows_elements n (elements_of c)
unfolding rows
under_rows_lem n (place m l ms vs ks es) = refl

-- the new element's block
new_block_lem : (i : ℕ) (d : List ℕ) (a : Assigned) (n : ℕ)
    → join (give_block i d a (record { own = new_row n (in_list i); under = [] })) ≡ join (block_of n (in_list i) (give i d a bare))
unfolding rows
new_block_lem i d a n = ap join (give_block_lem i d a n (in_list i) bare)

-- what an operation does at a place is what it does to the place's block
pub run_block_lem : (i : ℕ) (d : List ℕ) (w : Way) (n : ℕ) → Simulates n (run i d w) (run_block i d n w)
unfolding run run_block deletes passing
run_block_lem i d (assign a) n p c = give_block_lem i d a n p c
run_block_lem i d delete n p c = block_eq _ _ (clear_row_lem d n p c) (clear_rows d (suc n) c)
run_block_lem i d (insert q a) n p c =
    into_list_lem i n (insert q a) p c (insert_after q i (give i d a bare)) _
    (ap₂ (λ new us. insert_rows (suc n) q i new us) (new_block_lem i d a (suc n)) (under_rows_lem (suc n) c)
    ∙ insert_rows_lem (suc n) i (give i d a bare) q (children_of c) (elements_of c))
run_block_lem i d (into_map k w) n p c =
    into-map i n w p c (at_key (makes w) k (run i d w)) _
    (ap (at_key_rows (suc n) (makes w) k (run_block i d (suc n) w)) (under_rows_lem (suc n) c)
    ∙ key_rows (suc n) k (run i d w) (run_block i d (suc n) w) (run_block_lem i d w (suc n)) (elements_of c) (makes w) (children_of c))
run_block_lem i d (into_list e w) n p c =
    into_list_lem i n w p c (at_element e (run i d w)) _
    (ap (at_element_rows (suc n) e (run_block i d (suc n) w)) (under_rows_lem (suc n) c)
    ∙ element_rows (suc n) e (run i d w) (run_block i d (suc n) w) (run_block_lem i d w (suc n)) (children_of c) (elements_of c))

-- the rows after an operation are the operation on the rows
pub apply_rows_lem : (o : Operation) (D : Document) → apply_rows o (rows_of D) ≡ rows_of (apply o D)
unfolding apply_rows rows_of apply change rows
apply_rows_lem o D =
    let f = run o.id o.deps o.way in
    let g = run_block o.id o.deps 1 o.way in
    ap (at_key_rows 1 (makes o.way) o.top g) (sym (append-nil (rows_children 1 D.root)))
    ∙ (key_rows 1 o.top f g (run_block_lem o.id o.deps o.way 1) empty (makes o.way) D.root ∙ append-nil _)
