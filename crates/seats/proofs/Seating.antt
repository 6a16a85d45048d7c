-- The seat of a new element, in tables that hold rows.
-- Assumes nothing.
use Prim.Native.Nat.{ℕ}
use native.Mathlib.Omega.{arith}
use mathlib.Core.Path.{◌≡◌, refl, sym, ap, ◌∙◌, subst}
use mathlib.Core.Bool.{Bool, true, false, not, ◌||◌, true≢false}
use mathlib.Core.List.{List, [], ◌∷◌, ◌++◌, append_assoc}
use lib.ListN.{get_or}
use Rattle.std.specs.Prelude.{None, Some}
use Rattle.meaning.specs.Ways.{head, after}
use Rattle.meaning.specs.Sheet.{Spot, Row}
use Rattle.rows.specs.Blocks.{passed, rest, is_id, is_greater, in_a_map, over, insert_rows}
use Rattle.rows.specs.Balanced.{passed-rest, passed-rest-behind}
use Rattle.message.specs.Means.{prev_words}
use Rattle.tables.specs.Finds.{want_element, want_seat, want_head, element_agrees, seat_agrees, head_agrees, element_tells}
use Rattle.tables.specs.Standing.{behind}
use Rattle.tables.specs.Holding.{Holds, four, begins}
use Rattle.tables.specs.Parts.{at-behind}
use Rattle.tables.specs.Seek.{Passes}
use Rattle.tables.specs.Stands.{FindsIn, Knows, passes}
use Rattle.tables.specs.declared.Counts.{Counts}
use Rattle.tables.specs.declared.Position.{Position}
use Rattle.seats.specs.Stops.{none_deeper, all_there, step_on_lem, insert_after_lem, insert_nowhere}
use Rattle.seats.specs.Seats.{Sits, Seats}

-- the third word tells the head from an element
head_third : (e x : ℕ) → x ∷ 0 ∷ 18 ∷ [] ≡ prev_words (after e) → ⊥
unfolding prev_words
head_third e x q = omega (arith, ap (λ l. get_or l 2 0) q)

after-third : (x len : ℕ) → (len ≡ 18 → ⊥) → x ∷ 0 ∷ len ∷ [] ≡ prev_words head → ⊥
unfolding prev_words
after-third x len n q = n (ap (λ l. get_or l 2 0) q)

after_first : (x len e : ℕ) → x ∷ 0 ∷ len ∷ [] ≡ prev_words (after e) → x ≡ e
unfolding prev_words
after_first x len e q = ap (λ l. get_or l 0 0) q

module _ (n i hi len rows : ℕ) (from : Position) (h k : List ℕ) where
  -- behind the head
  pub seat_head : (t : Position) → len ≡ 18 → FindsIn h k rows from (want_head n i) t
      → Seats n hi len i rows from h k (Some t)
  unfolding insert_rows
  seat_head t l F m v c A B (after e) H r b w = absurd (head_third e hi (ap (λ len. hi ∷ 0 ∷ len ∷ []) (sym l) ∙ w))
  seat_head t l F m v c A B head H r b w =
      let pass : Spot → Bool = λ p. in_a_map p || is_greater i p in
      record {
        before = passed (over n pass) B;
        beyond = rest (over n pass) B;
        rows = sym (passed-rest (over n pass) B);
        here = F m v c A B pass H r b (head_agrees n i);
        ends = none_deeper n pass B;
        stays = all_there n pass B;
        inserts = λ new. step_on_lem n pass new B;
      }

  module _ (t : Position) (l : len ≡ 18 → ⊥) (F : FindsIn h k rows from (want_element n hi) t) (y : Bool)
      (K : Knows h k rows t.row (want_element n hi) y) where
    abbrev other : ℕ → Row → Bool
    other e = over n (λ p. not (is_id e p))

    -- whether the predecessor is there
    told : (m v : List ℕ) (c : Counts) (A B : List Row) → Holds (four h k m v) c (A ++ B) → rows ≡ c.rows → from ≡ behind A
        → y ≡ begins n (is_id hi) (rest (other hi) B)
    told m v c A B H r b =
        let s = F m v c A B _ H r b (element_agrees n hi) in
        K m v c (A ++ passed (other hi) B) (rest (other hi) B) (is_id hi)
        (subst (Holds (four h k m v) c) (passed-rest-behind A (other hi) B) H) r (at-behind t _ s).row (element_tells n hi)

    pub seat_none : y ≡ false → Seats n hi len i rows from h k None
    seat_none z m v c A B head H r b w = absurd (after-third hi len l w)
    seat_none z m v c A B (after e) H r b w =
        subst (λ e. (new : List Row) → insert_rows n (after e) i new B ≡ B) (after_first hi len e w)
        (λ new. insert_nowhere n i hi new B (sym (told m v c A B H r b) ∙ z))

    -- behind the predecessor
    pub seat_after : (p u : Position) → y ≡ true → Passes h t p → FindsIn h k rows p (want_seat n i) u
        → Seats n hi len i rows from h k (Some u)
    seat_after p u z P G m v c A B head H r b w = absurd (after-third hi len l w)
    seat_after p u z P G m v c A B (after e) H r b w =
        subst (λ e. Sits n i (after e) u A B) (after_first hi len e w)
        (go (rest (other hi) B) refl (sym (told m v c A B H r b) ∙ z))
      where
        go : (X : List Row) → rest (other hi) B ≡ X → begins n (is_id hi) X ≡ true
            → Sits n i (after hi) u A B
        go [] x q = absurd (true≢false (sym q))
        go (x ∷ X) q a =
            let W = passed (other hi) B in
            let g : List Row → List Row = λ R. passed (over n (is_greater i)) R in
            let e₁ : (A ++ W) ++ x ∷ X ≡ A ++ B = append_assoc A W (x ∷ X) ∙ ap (A ++◌) (ap (W ++◌) (sym q) ∙ passed-rest (other hi) B) in
            let S = subst (Holds (four h k m v) c) (sym e₁) H in
            let s = F m v c A B _ H r b (element_agrees n hi) in
            let d = passes h k m v c (A ++ W) X x S t p P s in
            let e₂ : ((A ++ W) ++ x ∷ []) ++ X ≡ (A ++ W) ++ x ∷ X = append_assoc (A ++ W) (x ∷ []) X in
            let f = G m v c ((A ++ W) ++ x ∷ []) X _ (subst (Holds (four h k m v) c) (sym e₂) S) r d (seat_agrees n i) in
            let e₃ : ((A ++ W) ++ x ∷ []) ++ g X ≡ A ++ (W ++ x ∷ g X) = append_assoc (A ++ W) (x ∷ []) (g X) ∙ append_assoc A W
            (x ∷ g X) in
            let e₄ : B ≡ (W ++ x ∷ g X) ++ rest (over n (is_greater i)) X =
            sym (passed-rest (other hi) B) ∙ (ap (W ++◌) (q ∙ ap (x ∷◌) (sym (passed-rest (over n (is_greater i)) X)))
            ∙ sym (append_assoc W (x ∷ g X) (rest (over n (is_greater i)) X))) in
            record {
              before = W ++ x ∷ g X;
              beyond = rest (over n (is_greater i)) X;
              rows = e₄;
              here = f ∙ ap behind e₃;
              ends = none_deeper n (is_greater i) X;
              stays = all_there n (is_greater i) X;
              inserts = λ new. insert_after_lem n i hi new B x X q a
                  ∙ sym (append_assoc W (x ∷ g X) (new ++ rest (over n (is_greater i)) X));
            }
