-- Where a search leads, in tables that hold rows: to the row that is there, to one that is made, or nowhere.
-- Assumes nothing.
use Prim.Native.Nat.{ℕ}
use native.Mathlib.Omega.{arith}
use mathlib.Core.Path.{◌≡◌, refl, sym, ap, ◌∙◌, subst}
use mathlib.Core.Bool.{Bool, true, false, true≢false}
use mathlib.Core.List.{List, [], ◌∷◌, ◌++◌, append_assoc}
use Rattle.meaning.specs.Sheet.{Spot, Row}
use Rattle.rows.specs.Blocks.{passed, rest, new_row, over}
use Rattle.rows.specs.Counting.{Fresh}
use Rattle.rows.specs.Balanced.{passed-rest, passed-rest-behind, fresh_parts}
use Rattle.readers.specs.Hex.{words_in}
use Rattle.tables.specs.Finds.{Agrees, Tells}
use Rattle.tables.specs.Standing.{behind}
use Rattle.tables.specs.Holding.{Holds, four, begins}
use Rattle.tables.specs.Parts.{at-behind}
use Rattle.tables.specs.Stands.{FindsIn, Knows}
use Rattle.tables.specs.declared.Counts.{Counts}
use Rattle.tables.specs.declared.Position.{Position}
use Rattle.tables.specs.declared.Search.{Search}
use Rattle.steps.specs.Steps.{Opens}
use Rattle.act.proofs.Counted.{opened_counts}
use Rattle.descend.specs.Reach.{changing, reached_row, reached_new, reached_none}
use Rattle.descend.specs.Doing.{Arrives, Leads}
use Rattle.std.specs.Prelude.{Option, None, Some}
use Rattle.tables.specs.declared.Tables.{Tables}
use Rattle.tables.specs.declared.Side.TheVariants as Sides

module _ (h k m v : List ℕ) (c : Counts) (from t : Position) (w : Search) (F : FindsIn h k c.rows from w t) where
  module _ (A B : List Row) (pass : Spot → Bool) (H : Holds (four h k m v) c (A ++ B)) (b : from ≡ behind A)
      (g : Agrees w pass) where
    stop : t ≡ behind (A ++ passed (over w.depth pass) B)
    stop = F m v c A B pass H refl b g

    held : Holds (four h k m v) c ((A ++ passed (over w.depth pass) B) ++ rest (over w.depth pass) B)
    held = subst (Holds (four h k m v) c) (passed-rest-behind A (over w.depth pass) B) H

    told : (meant : Spot → Bool) (y : Bool) → Knows h k c.rows t.row w y → Tells w meant
        → y ≡ begins w.depth meant (rest (over w.depth pass) B)
    told meant y K q = K m v c (A ++ passed (over w.depth pass) B) _ meant held refl (at-behind t _ stop).row q

  pub lead_row : (make y : Bool) → Knows h k c.rows t.row w y → y ≡ true
      → Leads w make c from (four h k m v) (four h k m v) (Some (t, c))
  lead_row make y K e A B pass meant p H b g q mk =
      go (rest (over w.depth pass) B) refl (sym (told A B pass H b g meant y K q) ∙ e)
    where
      go : (X : List Row) → rest (over w.depth pass) B ≡ X → begins w.depth meant X ≡ true
          → Arrives (four h k m v) c t c w.depth
          (changing w.depth pass meant make p B) A B
      go [] x y = absurd (true≢false (sym y))
      go (r ∷ R) x y = record {
        before = passed (over w.depth pass) B;
        row = r;
        beyond = R;
        holds = subst (λ X. Holds (four h k m v) c (A ++ X)) (sym (passed-rest (over w.depth pass) B)
            ∙ ap (passed (over w.depth pass) B ++◌) x) H;
        here = stop A B pass H b g;
        reached = reached_row w.depth pass meant p B make r R x y;
        fresh = λ i f. subst (Fresh i) x (fresh_parts i (over w.depth pass) B f).1;
        rows_more = omega arith;
        marks_same = refl;
        values_same = refl;
      }

  pub lead_new : (make y : Bool) (e : Counts) (h' k' : List ℕ) → Knows h k c.rows t.row w y → y ≡ false → make ≡ true
      → Opens t.row w.depth Sides.Map (words_in w.key) c h k e h' k'
      → Leads w make c from (four h k m v) (four h' k' m v) (Some (t, e))
  unfolding Opens
  lead_new make y e h' k' K z s O A B pass meant p H b g q mk =
      let P = passed (over w.depth pass) B in
      let X = rest (over w.depth pass) B in
      let M = mk s in
      let S = held A B pass H b g in
      let N = O m v (A ++ P) X p S (at-behind t _ (stop A B pass H b g)).row M.room M.deep M.good M.words M.under in
      let x = sym (told A B pass H b g meant y K q) ∙ z in
      let Z = opened_counts _ _ c e (A ++ P) X w.depth p S N in
      record {
        before = P;
        row = new_row w.depth p;
        beyond = X;
        holds = subst (Holds (four h' k' m v) e) (append_assoc A P (new_row w.depth p ∷ X)) N;
        here = stop A B pass H b g;
        reached = rw s (reached_new w.depth pass meant p B x);
        fresh = λ i f. ((λ u. u), (λ u. u), (fresh_parts i (over w.depth pass) B f).1);
        rows_more = omega (arith, Z.rows);
        marks_same = Z.marks;
        values_same = Z.values;
      }

  pub lead_none : (make y : Bool) → Knows h k c.rows t.row w y → y ≡ false → make ≡ false
      → Leads w make c from (four h k m v) (four h k m v) None
  lead_none make y K z s A B pass meant p H b g q mk =
      let x = sym (told A B pass H b g meant y K q) ∙ z in
      record { same = refl; nothing = λ f. rw s (reached_none w.depth pass meant p B f x) }

-- the same search, by the words of the key
pub lead_by : (w u : Search) (make may : Bool) (c : Counts) (from : Position) (T U : Tables) (x : Option (Position × Counts)) → w ≡ u
    → make ≡ may → Leads w make c from T U x → Leads u may c from T U x
lead_by w u make may c from T U x e f L =
    subst (λ y. Leads u y c from T U x) f (subst (λ y. Leads y make c from T U x) e L)
