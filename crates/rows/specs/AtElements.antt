-- A change at an element, and an insert, on rows.
-- Assumes nothing.
use Rattle.std.specs.Prelude.{ℕ, suc, ◌≡◌, Bool, false, ◌||◌, ltb}
use Rattle.std.proofs.Common.{arith, sym, ◌∙◌, lt-ltb, le-ltb, eq-eqb, ne_eqb}
use Rattle.std.proofs.Math.Path.{refl, ap}
use Rattle.std.proofs.Math.Bool.{not}
use mathlib.Core.List.{List, [], ◌∷◌, ◌++◌, append_assoc, append-nil}
use Rattle.meaning.specs.Places.{Place}
use Rattle.meaning.specs.Places.{Children, Elements, empty, element}
use Rattle.meaning.specs.Ways.{Prev, head, after}
use Rattle.meaning.specs.Apply.{at_element, step_on, step_from, insert_after}
use Rattle.meaning.specs.Sheet.{Spot, in_list, Row, row_of, rows, rows_children, rows_elements}
use Rattle.theorems.specs.Decide.{Tri, less, same, more, tri, Same, is, isnt, alike}
use Rattle.rows.specs.Blocks.{passed, rest, Block, join}
use Rattle.rows.specs.Blocks.{is_id, is_greater, in_a_map, over}
use Rattle.rows.specs.Blocks.{seek_rows, at_element_rows, step_on_rows, behind_rows, insert_rows}
use Rattle.rows.specs.Spans.{split_none, at_row, block_pass, block_stop, under_split, shallow_elements}
use Rattle.rows.specs.Spans.{map_pass}
use Rattle.rows.specs.Seeking.{block_of, Simulates, seek_none, seek_pass, seek-meant, seek-map, seek_stop}

-- Elements.

module _ (n e : ℕ) (f : Place → Place) (g : Block → Block) (h : Simulates n f g) where
  element_seek : (es : Elements)
      → seek_rows n (λ p. not (is_id e p)) (is_id e) g [] (rows_elements n es) ≡ rows_elements n (at_element e f es)
  unfolding rows at_element
  element_seek empty = seek_none n (λ p. not (is_id e p)) (is_id e) g []
  element_seek (element j c es) = go (alike e j) (element_seek es)
    where
      goal : Elements → Type 0
      goal fs = seek_rows n (λ p. not (is_id e p)) (is_id e) g [] (rows_elements n (element j c es)) ≡ rows_elements n fs

      go : Same e j → seek_rows n (λ p. not (is_id e p)) (is_id e) g [] (rows_elements n es) ≡ rows_elements n (at_element e f es)
          → goal (at_element e f (element j c es))
      go (is q) r =
          let t = eq-eqb e j q in
          rw (t, at_element)
          (seek-meant n (λ p. not (is_id e p)) (is_id e) g [] (in_list j) c (rows_elements n es) (ap not t) t (shallow_elements n es)
          ∙ ap (λ b. join b ++ rows_elements n es) (h (in_list j) c))
      go (isnt m) r =
          let t = ne_eqb e j m in
          rw (t, at_element)
          (seek_pass n (λ p. not (is_id e p)) (is_id e) g [] (in_list j) c (rows_elements n es) (ap not t)
          ∙ ap (λ xs. row_of n (in_list j) c ∷ (rows (suc n) c ++ xs)) r)

  pub element_rows : (ks : Children) (es : Elements)
      → at_element_rows n e g (rows_children n ks ++ rows_elements n es) ≡ rows_children n ks ++ rows_elements n (at_element e f es)
  unfolding at_element_rows
  element_rows ks es =
      seek-map n (λ p. not (is_id e p)) (is_id e) g [] (λ k. refl) ks (rows_elements n es) ∙ ap (rows_children n ks ++◌) (element_seek es)

-- Inserting.

module _ (n i : ℕ) (c : Place) where
  step_rows : (pass : Spot → Bool) → ((j : ℕ) → pass (in_list j) ≡ ltb i j) → (es : Elements)
      → step_on_rows n pass (join (block_of n (in_list i) c)) (rows_elements n es) ≡ rows_elements n (step_on i c es)
  unfolding rows step_on step_on_rows
  step_rows pass q empty = seek_none n pass (λ p. false) (λ b. b) _ ∙ ap (row_of n (in_list i) c ∷◌) (sym (append-nil (rows (suc n) c)))
  step_rows pass q (element j x es) = go (tri i j) (step_rows pass q es)
    where
      new : List Row
      new = join (block_of n (in_list i) c)

      go : Tri i j → seek_rows n pass (λ p. false) (λ b. b) new (rows_elements n es) ≡ rows_elements n (step_on i c es)
          → seek_rows n pass (λ p. false) (λ b. b) new (rows_elements n (element j x es)) ≡ rows_elements n (step_on i c (element j x es))
      go (less p) r =
          let t = lt-ltb i j p in
          rw (t, step_on)
          (seek_pass n pass (λ p. false) (λ b. b) new (in_list j) x (rows_elements n es) (q j ∙ t)
          ∙ ap (λ xs. row_of n (in_list j) x ∷ (rows (suc n) x ++ xs)) r)
      go (same p) r =
          let t = le-ltb i j (omega arith) in
          rw (t, step_on) (seek_stop n pass (λ p. false) (λ b. b) new (in_list j) x _ (q j ∙ t) refl)
      go (more p) r =
          let t = le-ltb i j (omega arith) in
          rw (t, step_on) (seek_stop n pass (λ p. false) (λ b. b) new (in_list j) x _ (q j ∙ t) refl)

  -- behind element e
  behind_rows_lem : (e : ℕ) (es : Elements) → (let p = over n (λ p. not (is_id e p)) in let rs = rows_elements n es in
      passed p rs ++ behind_rows n e i (join (block_of n (in_list i) c)) (rest p rs)) ≡ rows_elements n (step_from e i c es)
  unfolding rows step_from behind_rows
  behind_rows_lem e empty =
      let s = split_none (over n (λ p. not (is_id e p))) in
      rw (s.front, s.back)
  behind_rows_lem e (element j x es) = go (alike e j) (behind_rows_lem e es)
    where
      new : List Row
      new = join (block_of n (in_list i) c)

      pass : Row → Bool
      pass = over n (λ p. not (is_id e p))

      before_it : List Row → List Row
      before_it rs = passed pass rs ++ behind_rows n e i new (rest pass rs)

      go : Same e j → before_it (rows_elements n es) ≡ rows_elements n (step_from e i c es)
          → before_it (rows_elements n (element j x es)) ≡ rows_elements n (step_from e i c (element j x es))
      go (is q) r =
          let t = eq-eqb e j q in
          let s = block_stop n (λ p. not (is_id e p)) (in_list j) x (rows (suc n) x ++ rows_elements n es) (ap not t) in
          let u = under_split n x (rows_elements n es) (shallow_elements n es) in
          rw (t, step_from)
          (rw (s.front, s.back, at_row n (is_id e) (in_list j) x, t, u.front, u.back, append-nil (rows (suc n) x))
          (ap (λ xs. row_of n (in_list j) x ∷ (rows (suc n) x ++ xs)) (step_rows (is_greater i) (λ j. refl) es)))
      go (isnt m) r =
          let t = ne_eqb e j m in
          let s = block_pass n (λ p. not (is_id e p)) (in_list j) x (rows_elements n es) _ _ (ap not t)
          (record { front = refl; back = refl }) in
          rw (t, step_from)
          (rw (s.front, s.back) (ap (row_of n (in_list j) x ∷◌) (append_assoc (rows (suc n) x) _ _)
          ∙ ap (λ xs. row_of n (in_list j) x ∷ (rows (suc n) x ++ xs)) r))

  pub insert_rows_lem : (p : Prev) (ks : Children) (es : Elements)
      → insert_rows n p i (join (block_of n (in_list i) c)) (rows_children n ks ++ rows_elements n es)
      ≡ rows_children n ks ++ rows_elements n (insert_after p i c es)
  unfolding insert_rows insert_after
  insert_rows_lem head ks es =
      unfold step_on_rows in
      (seek-map n (λ p. in_a_map p || is_greater i p) (λ p. false) (λ b. b) _ (λ k. refl) ks (rows_elements n es))
      ∙ ap (rows_children n ks ++◌) (step_rows (λ p. in_a_map p || is_greater i p) (λ j. refl) es)
  insert_rows_lem (after e) ks es =
      let s = map_pass n (λ p. not (is_id e p)) (λ k. refl) ks (rows_elements n es) _ _ (record { front = refl; back = refl }) in
      rw (s.front, s.back) (append_assoc (rows_children n ks) _ _ ∙ ap (rows_children n ks ++◌) (behind_rows_lem e es))
