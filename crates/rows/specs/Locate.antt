-- Finding a place among rows: by key, by element id. What judges an operation on its rows is what judges it on the document, for answer 8;
-- reads find their place the same way.
-- Assumes nothing.
use Rattle.std.specs.Prelude.{ℕ, suc, ◌≡◌, Bool, true, false, cond, not, ◌&&◌}
use Rattle.std.proofs.Math.Path.{refl, ap}
use Rattle.std.proofs.Common.{sym, ◌∙◌, eq-eqb, ne_eqb}
use mathlib.Core.List.{List, [], ◌∷◌, ◌++◌, append_assoc, append-nil}
use Rattle.meaning.specs.Ids.{covered}
use Rattle.meaning.specs.Places.{before, equal, beyond, order, Place, place, bare, children_of, elements_of, Document}
use Rattle.meaning.specs.Places.{Children, childless, child, Elements, empty, element}
use Rattle.meaning.specs.Ways.{head, after, Way, assign, delete, insert, into_map, into_list, Operation}
use Rattle.meaning.specs.Judge.{look, Found, found, unknown, is_found, find, elements_found, astray}
use Rattle.meaning.specs.Read.{lookup}
use Rattle.meaning.specs.Sheet.{Spot, in_map, in_list, Row, row_of, rows, rows_children, rows_elements, rows_of}
use Rattle.theorems.specs.Decide.{Same, is, isnt, alike}
use Rattle.theorems.specs.Keys.{TriK, less_k, same_k, more_k, tri_k, order_self}
use Rattle.rows.specs.Blocks.{passed, rest, Block, deeper, key_below, is_key, is_id, over, at}
use Rattle.rows.specs.Spans.{Splits, split_none, at_row, block_pass, block_stop, Shallow, under_split, shallow_elements}
use Rattle.rows.specs.Spans.{shallow_children, map_pass}
use Rattle.rows.specs.Seeking.{block_of}
use Rattle.rows.specs.AtKeys.{below_turn, key_turn}

pub data Located : Type 0 where
  nowhere : Located
  here : Block → Located

-- the block at the start, if it is the one that is meant
unfoldable pub locate_here : ℕ → (Spot → Bool) → List Row → Located
locate_here n meant [] = nowhere
locate_here n meant (r ∷ rs) = cond (at n meant r) (here (record { own = r; under = passed (deeper n) rs })) nowhere

-- the same from the first row on that isn't passed over
unfoldable pub locate : ℕ → (Spot → Bool) → (Spot → Bool) → List Row → Located
locate n pass meant rs = locate_here n meant (rest (over n pass) rs)

-- the place under a key, element e, among the rows under a place with children of depth n
unfoldable pub locate_key : ℕ → List ℕ → List Row → Located
locate_key n k rs = locate n (key_below k) (is_key k) rs

unfoldable pub locate_element : ℕ → ℕ → List Row → Located
locate_element n e rs = locate n (λ p. not (is_id e p)) (is_id e) rs

-- what hangs under what was found; an unknown place has nothing under it
abbrev pub under_of : Located → List Row
under_of nowhere = []
under_of (here b) = b.under

abbrev pub is_located : Located → Bool
is_located nowhere = false
is_located (here b) = true

-- answer 8, on rows: each element id on the way is covered by deps and an element of that list
unfoldable pub elements_found_rows : List ℕ → ℕ → Way → List Row → Bool
elements_found_rows d n (assign a) rs = true
elements_found_rows d n delete rs = true
elements_found_rows d n (insert head a) rs = true
elements_found_rows d n (insert (after e) a) rs = covered d e && is_located (locate_element n e rs)
elements_found_rows d n (into_map k w) rs = elements_found_rows d (suc n) w (under_of (locate_key n k rs))
elements_found_rows d n (into_list e w) rs =
    covered d e && elim (locate_element n e rs) [ nowhere ↦ false | here b ↦ elements_found_rows d (suc n) w b.under ]

unfoldable pub astray_rows : Operation → List Row → Bool
astray_rows o rs = not (elements_found_rows o.deps 2 o.way (under_of (locate_key 1 o.top rs)))

-- The laws.

module _ (n : ℕ) (pass meant : Spot → Bool) where
  locate_split : (rs a b : List Row) → Splits (over n pass) rs a b → locate n pass meant rs ≡ locate_here n meant b
  unfolding locate
  locate_split rs a b s = ap (locate_here n meant) s.back

  locate_none : locate n pass meant [] ≡ nowhere
  unfolding locate_here
  locate_none = locate_split [] [] [] (split_none (over n pass))

  locate_pass : (p : Spot) (c : Place) (rs : List Row) → pass p ≡ true
      → locate n pass meant (row_of n p c ∷ (rows (suc n) c ++ rs)) ≡ locate n pass meant rs
  unfolding locate
  locate_pass p c rs e = ap (locate_here n meant) (block_pass n pass p c rs _ _ e (record { front = refl; back = refl })).back

  locate-meant : (p : Spot) (c : Place) (rs : List Row) → pass p ≡ false → meant p ≡ true → Shallow n rs
      → locate n pass meant (row_of n p c ∷ (rows (suc n) c ++ rs)) ≡ here (block_of n p c)
  unfolding locate_here
  locate-meant p c rs e f h =
      locate_split _ _ _ (block_stop n pass p c (rows (suc n) c ++ rs) e)
      ∙ rw (at_row n meant p c, f, (under_split n c rs h).front, append-nil (rows (suc n) c))

  locate_stop : (p : Spot) (c : Place) (rs : List Row) → pass p ≡ false → meant p ≡ false
      → locate n pass meant (row_of n p c ∷ rs) ≡ nowhere
  unfolding locate_here
  locate_stop p c rs e f = locate_split _ _ _ (block_stop n pass p c rs e) ∙ rw (at_row n meant p c, f)

  locate-map : ((k : List ℕ) → pass (in_map k) ≡ true) → (ks : Children) (rs : List Row)
      → locate n pass meant (rows_children n ks ++ rs) ≡ locate n pass meant rs
  unfolding locate
  locate-map h ks rs = ap (locate_here n meant) (map_pass n pass h ks rs _ _ (record { front = refl; back = refl })).back

-- a place that was found, as its block
abbrev pub as_block : ℕ → Spot → Found → Located
as_block n p unknown = nowhere
as_block n p (found c) = here (block_of n p c)

pub locate_key_lem : (n : ℕ) (k : List ℕ) (ks : Children) (es : Elements)
    → locate_key n k (rows_children n ks ++ rows_elements n es) ≡ as_block n (in_map k) (lookup k ks)
unfolding rows lookup locate_key
locate_key_lem n k childless empty = locate_none n (key_below k) (is_key k)
locate_key_lem n k childless (element i c es) = locate_stop n (key_below k) (is_key k) (in_list i) c _ refl refl
locate_key_lem n k (child j c ks) es = go (tri_k k j) (locate_key_lem n k ks es)
  where
    us : List Row
    us = rows_children n ks ++ rows_elements n es

    whole : rows_children n (child j c ks) ++ rows_elements n es ≡ row_of n (in_map j) c ∷ (rows (suc n) c ++ us)
    whole = ap (row_of n (in_map j) c ∷◌) (append_assoc (rows (suc n) c) (rows_children n ks) (rows_elements n es))

    at-whole : locate n (key_below k) (is_key k) (rows_children n (child j c ks) ++ rows_elements n es)
        ≡ locate n (key_below k) (is_key k) (row_of n (in_map j) c ∷ (rows (suc n) c ++ us))
    at-whole = ap (locate n (key_below k) (is_key k)) whole

    go : TriK k j → locate n (key_below k) (is_key k) us ≡ as_block n (in_map k) (lookup k ks)
        → locate n (key_below k) (is_key k) (rows_children n (child j c ks) ++ rows_elements n es)
        ≡ as_block n (in_map k) (lookup k (child j c ks))
    go (less_k p q) r =
        rw (p, lookup) (at-whole ∙ locate_stop n (key_below k) (is_key k) (in_map j) c _ (below_turn k j before p) (key_turn k j before p))
    go (same_k p) r =
        let e : order k j ≡ equal = rw p (order_self j) in
        rw (e, lookup)
        (at-whole
        ∙ (locate-meant n (key_below k) (is_key k) (in_map j) c us (below_turn k j equal e) (key_turn k j equal e)
        (shallow_children n ks es)
        ∙ ap (λ j. here (block_of n (in_map j) c)) (sym p)))
    go (more_k p q) r = rw (p, lookup) (at-whole ∙ (locate_pass n (key_below k) (is_key k) (in_map j) c us (below_turn k j beyond p) ∙ r))

among_elements : (n e : ℕ) (es : Elements)
    → locate n (λ p. not (is_id e p)) (is_id e) (rows_elements n es) ≡ as_block n (in_list e) (find e es)
unfolding rows find
among_elements n e empty = locate_none n (λ p. not (is_id e p)) (is_id e)
among_elements n e (element j c es) = go (alike e j) (among_elements n e es)
  where
    go : Same e j → locate n (λ p. not (is_id e p)) (is_id e) (rows_elements n es) ≡ as_block n (in_list e) (find e es)
        → locate n (λ p. not (is_id e p)) (is_id e) (rows_elements n (element j c es)) ≡ as_block n (in_list e) (find e (element j c es))
    go (is q) r =
        let t = eq-eqb e j q in
        rw (t, find)
        (locate-meant n (λ p. not (is_id e p)) (is_id e) (in_list j) c (rows_elements n es) (ap not t) t (shallow_elements n es)
        ∙ ap (λ j. here (block_of n (in_list j) c)) (sym q))
    go (isnt m) r =
        let t = ne_eqb e j m in
        rw (t, find) (locate_pass n (λ p. not (is_id e p)) (is_id e) (in_list j) c (rows_elements n es) (ap not t) ∙ r)

pub locate_element_lem : (n e : ℕ) (ks : Children) (es : Elements)
    → locate_element n e (rows_children n ks ++ rows_elements n es) ≡ as_block n (in_list e) (find e es)
unfolding locate_element
locate_element_lem n e ks es =
    locate-map n (λ p. not (is_id e p)) (is_id e) (λ k. refl) ks (rows_elements n es) ∙ among_elements n e es

-- the same of a place
pub under_key : (n : ℕ) (k : List ℕ) (c : Place) → locate_key n k (rows n c) ≡ as_block n (in_map k) (lookup k (children_of c))
unfolding rows
under_key n k (place m l ms vs ks es) = locate_key_lem n k ks es

pub under_element : (n e : ℕ) (c : Place) → locate_element n e (rows n c) ≡ as_block n (in_list e) (find e (elements_of c))
unfolding rows
under_element n e (place m l ms vs ks es) = locate_element_lem n e ks es

-- a place that is looked up, an unknown one being bare
or_bare : Found → Place
or_bare unknown = bare
or_bare (found c) = c

look-lookup : (k : List ℕ) (ks : Children) → look k ks ≡ or_bare (lookup k ks)
unfolding look lookup or_bare
look-lookup k childless = refl
look-lookup k (child j c ks) = go (tri_k k j) (look-lookup k ks)
  where
    go : TriK k j → look k ks ≡ or_bare (lookup k ks) → look k (child j c ks) ≡ or_bare (lookup k (child j c ks))
    go (less_k p q) r = rw (p, look, lookup)
    go (same_k p) r = let e : order k j ≡ equal = rw p (order_self j) in rw (e, look, lookup)
    go (more_k p q) r = rw (p, look, lookup) r

under_found : (n : ℕ) (p : Spot) (f : Found) → under_of (as_block n p f) ≡ rows (suc n) (or_bare f)
unfolding or_bare rows
under_found n p unknown = refl
under_found n p (found c) = refl

located_found : (n : ℕ) (p : Spot) (f : Found) → is_located (as_block n p f) ≡ is_found f
located_found n p unknown = refl
located_found n p (found c) = refl

-- answer 8 is the same on rows
pub found_rows : (d : List ℕ) (w : Way) (n : ℕ) (c : Place) → elements_found_rows d n w (rows n c) ≡ elements_found d w c
unfolding elements_found_rows elements_found
found_rows d (assign a) n c = refl
found_rows d delete n c = refl
found_rows d (insert head a) n c = refl
found_rows d (insert (after e) a) n c =
    ap (λ b. covered d e && b) (ap is_located (under_element n e c) ∙ located_found n (in_list e) (find e (elements_of c)))
found_rows d (into_map k w) n c =
    ap (elements_found_rows d (suc n) w) (ap under_of (under_key n k c) ∙ (under_found n (in_map k) (lookup k (children_of c))
    ∙ ap (rows (suc n)) (sym (look-lookup k (children_of c)))))
    ∙ found_rows d w (suc n) (look k (children_of c))
found_rows d (into_list e w) n c =
    ap (λ l. covered d e && elim l as (λ l. Bool) [ nowhere ↦ false | here b ↦ elements_found_rows d (suc n) w b.under ])
    (under_element n e c)
    ∙ ap (λ b. covered d e && b) (go (find e (elements_of c)) (λ x. found_rows d w (suc n) x))
  where
    go : (f : Found) → ((x : Place) → elements_found_rows d (suc n) w (rows (suc n) x) ≡ elements_found d w x)
        → ◌≡◌ {A = Bool} (elim (as_block n (in_list e) f) [ nowhere ↦ false | here b ↦ elements_found_rows d (suc n) w b.under ])
        (elim f [ found x ↦ elements_found d w x | unknown ↦ false ])
    go unknown h = refl
    go (found x) h = h x

pub astray_rows_lem : (o : Operation) (D : Document) → astray_rows o (rows_of D) ≡ astray D o
unfolding astray_rows astray rows_of rows
astray_rows_lem o D =
    let e = append-nil (rows_children 1 D.root) in
    ap not (ap (elements_found_rows o.deps 2 o.way) (ap (λ rs. under_of (locate_key 1 o.top rs)) (sym e)
    ∙ (ap under_of (locate_key_lem 1 o.top D.root empty) ∙ (under_found 1 (in_map o.top) (lookup o.top D.root)
    ∙ ap (rows 2) (sym (look-lookup o.top D.root)))))
    ∙ found_rows o.deps o.way 2 (look o.top D.root))
