-- A change at a key, on rows.
-- Assumes nothing.
use Rattle.std.specs.Prelude.{ℕ, suc, ◌≡◌, Bool, cond}
use Rattle.std.proofs.Math.Path.{refl, ap}
use Rattle.std.proofs.Common.{sym, ◌∙◌}
use Rattle.std.proofs.Math.Bool.{true, false}
use mathlib.Core.List.{List, ◌∷◌, ◌++◌, append_assoc, append-nil}
use Rattle.meaning.specs.Places.{Turn, before, equal, beyond, order, Place, bare}
use Rattle.meaning.specs.Places.{Children, childless, child, Elements, empty, element}
use Rattle.meaning.specs.Apply.{at_key}
use Rattle.meaning.specs.Sheet.{in_map, in_list, Row, row_of, rows, rows_children, rows_elements}
use Rattle.theorems.specs.Keys.{TriK, less_k, same_k, more_k, tri_k, order_self}
use Rattle.rows.specs.Blocks.{Block, join}
use Rattle.rows.specs.Blocks.{key_below, is_key}
use Rattle.rows.specs.Blocks.{seek_rows, made, at_key_rows}
use Rattle.rows.specs.Spans.{shallow_children}
use Rattle.rows.specs.Seeking.{Simulates, seek_none, seek_pass, seek-meant, seek_stop}

pub below_turn : (k j : List ℕ) (t : Turn) → order k j ≡ t
    → key_below k (in_map j) ≡ elim t [ before ↦ false | equal ↦ false | beyond ↦ true ]
below_turn k j t e = ap (λ t. elim t as (λ t. Bool) [ before ↦ false | equal ↦ false | beyond ↦ true ]) e

pub key_turn : (k j : List ℕ) (t : Turn) → order k j ≡ t → is_key k (in_map j) ≡ elim t [ before ↦ false | equal ↦ true | beyond ↦ false ]
key_turn k j t e = ap (λ t. elim t as (λ t. Bool) [ before ↦ false | equal ↦ true | beyond ↦ false ]) e

module _ (n : ℕ) (k : List ℕ) (f : Place → Place) (g : Block → Block) (h : Simulates n f g) (es : Elements) where
  -- where the key is unknown
  made_rows : (new : Bool) (ks : Children) → made new n (in_map k) g ++ (rows_children n ks ++ rows_elements n es)
      ≡ rows_children n (cond new (child k (f bare) ks) ks) ++ rows_elements n es
  unfolding rows
  made_rows true ks =
      ap (λ b. join b ++ (rows_children n ks ++ rows_elements n es)) (h (in_map k) bare)
      ∙ ap (row_of n (in_map k) (f bare) ∷◌) (sym (append_assoc (rows (suc n) (f bare)) (rows_children n ks) (rows_elements n es)))
  made_rows false ks = refl

  -- behind the last key come the elements, or nothing
  no_key : (new : Bool) → at_key_rows n new k g (rows_elements n es)
      ≡ rows_children n (cond new (child k (f bare) childless) childless) ++ rows_elements n es
  unfolding rows at_key_rows
  no_key new = go es (λ fs. made_none new fs)
    where
      made_none : (new : Bool) (fs : Elements) → made new n (in_map k) g ++ rows_elements n fs
          ≡ rows_children n (cond new (child k (f bare) childless) childless) ++ rows_elements n fs
      made_none true fs =
          ap (λ b. join b ++ rows_elements n fs) (h (in_map k) bare) ∙ ap (row_of n (in_map k) (f bare) ∷◌)
          (ap (◌++ rows_elements n fs) (sym (append-nil (rows (suc n) (f bare)))))
      made_none false fs = refl

      go : (fs : Elements) → ((fs : Elements) → made new n (in_map k) g ++ rows_elements n fs
          ≡ rows_children n (cond new (child k (f bare) childless) childless) ++ rows_elements n fs)
          → seek_rows n (key_below k) (is_key k) g (made new n (in_map k) g) (rows_elements n fs)
          ≡ rows_children n (cond new (child k (f bare) childless) childless) ++ rows_elements n fs
      go empty m = seek_none n (key_below k) (is_key k) g (made new n (in_map k) g) ∙ (sym (append-nil _) ∙ m empty)
      go (element i c fs) m = seek_stop n (key_below k) (is_key k) g (made new n (in_map k) g) (in_list i) c _ refl refl
          ∙ m (element i c fs)

  pub key_rows : (new : Bool) (ks : Children)
      → at_key_rows n new k g (rows_children n ks ++ rows_elements n es) ≡ rows_children n (at_key new k f ks) ++ rows_elements n es
  unfolding rows at_key
  key_rows new childless = no_key new
  key_rows new (child j c ks) = go (tri_k k j) (key_rows new ks)
    where
      us : List Row
      us = rows_children n ks ++ rows_elements n es

      whole : rows_children n (child j c ks) ++ rows_elements n es ≡ row_of n (in_map j) c ∷ (rows (suc n) c ++ us)
      whole = ap (row_of n (in_map j) c ∷◌) (append_assoc (rows (suc n) c) (rows_children n ks) (rows_elements n es))

      goal : Children → Type 0
      goal qs = at_key_rows n new k g (rows_children n (child j c ks) ++ rows_elements n es) ≡ rows_children n qs ++ rows_elements n es

      less_rows : order k j ≡ before → goal (cond new (child k (f bare) (child j c ks)) (child j c ks))
      less_rows p =
          unfold at_key_rows in
          (ap (seek_rows n (key_below k) (is_key k) g (made new n (in_map k) g)) whole
          ∙ (seek_stop n (key_below k) (is_key k) g (made new n (in_map k) g) (in_map j) c _ (below_turn k j before p)
          (key_turn k j before p)
          ∙ (ap (made new n (in_map k) g ++◌) (sym whole) ∙ made_rows new (child j c ks))))

      same_rows : order k j ≡ equal → goal (child j (f c) ks)
      same_rows p =
          unfold at_key_rows in
          (ap (seek_rows n (key_below k) (is_key k) g (made new n (in_map k) g)) whole
          ∙ (seek-meant n (key_below k) (is_key k) g (made new n (in_map k) g) (in_map j) c us (below_turn k j equal p)
          (key_turn k j equal p) (shallow_children n ks es)
          ∙ (ap (λ b. join b ++ us) (h (in_map j) c)
          ∙ ap (row_of n (in_map j) (f c) ∷◌) (sym (append_assoc (rows (suc n) (f c)) (rows_children n ks) (rows_elements n es))))))

      more_rows : order k j ≡ beyond → at_key_rows n new k g us ≡ rows_children n (at_key new k f ks) ++ rows_elements n es
          → goal (child j c (at_key new k f ks))
      more_rows p r =
          unfold at_key_rows in
          (ap (seek_rows n (key_below k) (is_key k) g (made new n (in_map k) g)) whole
          ∙ (seek_pass n (key_below k) (is_key k) g (made new n (in_map k) g) (in_map j) c us (below_turn k j beyond p)
          ∙ (ap (λ xs. row_of n (in_map j) c ∷ (rows (suc n) c ++ xs)) r
          ∙ ap (row_of n (in_map j) c ∷◌) (sym (append_assoc (rows (suc n) c) _ _)))))

      go : TriK k j → at_key_rows n new k g us ≡ rows_children n (at_key new k f ks) ++ rows_elements n es
          → goal (at_key new k f (child j c ks))
      go (less_k p q) r = rw (p, at_key) (less_rows p)
      go (same_k p) r = let e : order k j ≡ equal = rw p (order_self j) in rw (e, at_key) (same_rows e)
      go (more_k p q) r = rw (p, at_key) (more_rows p r)
