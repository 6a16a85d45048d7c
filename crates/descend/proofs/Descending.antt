-- A descent, in tables that hold rows: where it ends at once, at an insert, at the row of its last key, and where it goes on.
-- Assumes nothing.
use Prim.Native.Nat.{ℕ, suc, ◌+◌, ◌-◌, ◌≤◌, ◌<◌}
use native.Mathlib.Numerals.{add-one}
use native.Mathlib.Omega.{arith}
use mathlib.Core.Path.{◌≡◌, refl, sym, ap, ◌∙◌, subst}
use mathlib.Core.Bool.{true, false, cond}
use mathlib.Core.List.{List, [], ◌∷◌, ◌++◌, append_assoc}
use lib.ListN.{length, get_or, take, drop, length-drop}
use lib.Seq.{take_all}
use Rattle.meaning.specs.Ways.{Prev, head, after, Way, assign, delete, insert, into_map, into_list, steps}
use Rattle.meaning.specs.Valid.{ValidWay}
use Rattle.meaning.specs.Sheet.{Row}
use Rattle.rows.specs.Blocks.{passed, rest, Block, join, deeper, run_block}
use Rattle.rows.specs.Counting.{Fresh}
use Rattle.rows.specs.Balanced.{passed-rest}
use Rattle.rows.specs.Within.{under_rows, GoesOn, enter_row, run_under, shallow_rest, rows_within}
use Rattle.message.specs.Means.{prev_words, way_words, deed_of}
use Rattle.tables.specs.declared.Tables.{Tables}
use Rattle.tables.specs.Standing.{behind}
use Rattle.tables.specs.Holding.{Holds, four}
use Rattle.tables.specs.declared.Counts.{Counts}
use Rattle.tables.specs.declared.Position.{Position}
use Rattle.deeds.specs.Deeds.{is_delete, may_make, inserts_here}
use Rattle.act.specs.Acting.{block_at, marks_by, with_marks, Spare, Does, Finishes, Inserts}
use Rattle.message.specs.declared.Act.{Act}
use Rattle.act.proofs.Gaps.{marks_all, marks_most, mark-further, mark-next, leaves_still}
use Rattle.descend.specs.Reach.{changing}
use Rattle.descend.specs.Going.{three_key, words_long, words_none, inserts_only, goes_on, third_word, Goes, goes}
use Rattle.words.specs.Gap.{Gap, Leaves}
use Rattle.tables.specs.Seek.{Passes}
use Rattle.tables.specs.Stands.{passes}
use Rattle.tables.specs.Wants.{search_of}
use Rattle.descend.specs.Doing.{Arrives, Stays, Lands, side_by, way_side, Leads, Enters, Descends}
use Rattle.std.specs.Prelude.{Option, None, Some}
use Rattle.tables.specs.declared.Side.{Side}
use Rattle.tables.specs.declared.Side.TheVariants as Sides

empty_list_lem : (xs : List ℕ) → length xs ≡ 0 → xs ≡ []
empty_list_lem [] e = refl
empty_list_lem (x ∷ xs) e = absurd (omega (arith, e))

-- the words behind the first key
pub part_is : (ks : List ℕ) → take (length ks - 3) (drop 3 ks) ≡ drop 3 ks
part_is ks = take_all (length ks - 3) (drop 3 ks) (omega (arith, length-drop 3 ks))

pub part_shorter : (ks : List ℕ) → 3 ≤ length ks → length (take (length ks - 3) (drop 3 ks)) < length ks
part_shorter ks h = omega (arith, ap length (part_is ks), length-drop 3 ks)

prev_long : (p : Prev) → length (prev_words p) ≡ 3
unfolding prev_words
prev_long head = refl
prev_long (after e) = refl

module _ (o : Act) (n : ℕ) (ks : List ℕ) (from : Position) (c : Counts) (T : Tables) where
  -- nothing is put in
  stays : (A B : List Row) (w : Way) → Holds T c (A ++ B) → from ≡ behind A → Spare c (steps w) (n - 1 + steps w) 1 → (P : List ℕ → Type 0)
      → P T.marks → Leaves (marks_by o.deed (n - 1)) from.mark c.marks T.marks P
  stays A B w H b s P x =
      leaves_still (marks_by o.deed (n - 1)) from T c A B P H b (omega (arith, marks_most o.deed (n - 1), s.marks_spare)) x

  -- the way has no more keys
  pub descend_ends : length ks < 3 → Descends o n ks from c T c c.marks T
  unfolding under_rows
  descend_ends l A B w H b e v d y f some s =
      stays A B w H b s _
      (words_none w (omega (arith, ap length e))
      (λ w. Does T c c (steps w) (steps w) 1 (A ++ under_rows o.id o.deps.at n w B))
      (λ a. record { holds = H; rows_more = omega arith; marks_more = omega arith; values_more = omega arith })
      (record { holds = H; rows_more = omega arith; marks_more = omega arith; values_more = omega arith }))

  none_left : (w : Way) → steps w ≤ 0 → length (way_words w) < 3
  unfolding steps way_words
  none_left (assign a) s = omega arith
  none_left delete s = omega arith
  none_left (insert p a) s = absurd (omega arith)
  none_left (into_map k w) s = absurd (omega arith)
  none_left (into_list e w) s = absurd (omega arith)

  -- no place is deeper than eight
  pub descend_deep : 8 < n → Descends o n ks from c T c c.marks T
  descend_deep l A B w H b e v d y f some s =
      descend_ends (omega (arith, ap length e, none_left w (omega (arith, y)))) A B w H b e v d y f some s

  first_words : (hi len : ℕ) (p : Prev) → ks ≡ prev_words p → hi ≡ get_or ks 0 0 → len ≡ get_or ks 2 0 → hi ∷ 0 ∷ len ∷ [] ≡ prev_words p
  unfolding prev_words
  first_words hi len head q x z = rw (x, z, q)
  first_words hi len (after e) q x z = rw (x, z, q)

  -- a way has three words for each key
  pub descend_odd : (e : Counts) (p' : ℕ) (U : Tables) → 3 < length ks → length ks < 6 → Descends o n ks from c T e p' U
  unfolding way_words
  descend_odd e p' U l m A B (assign a) H b q = absurd (omega (arith, l, ap length q))
  descend_odd e p' U l m A B delete H b q = absurd (omega (arith, l, ap length q))
  descend_odd e p' U l m A B (insert p a) H b q = absurd (omega (arith, l, ap length q, prev_long p))
  descend_odd e p' U l m A B (into_map k w) H b q =
      absurd (omega (arith, l, m, ap length q, words_long w (goes_on w (omega (arith, l, ap length q)))))
  descend_odd e p' U l m A B (into_list j w) H b q =
      absurd (omega (arith, l, m, ap length q, words_long w (goes_on w (omega (arith, l, ap length q)))))

  -- the last key is the predecessor of a new element
  pub descend_inserts : (hi len : ℕ) (e : Counts) (p' : ℕ) (U : Tables) → inserts_here (length ks) o.deed ≡ true → hi ≡ get_or ks 0 0
      → len ≡ get_or ks 2 0 → n ≤ 8 → Inserts o n hi len from c T e p' U → Descends o n ks from c T e p' U
  unfolding under_rows way_words deed_of steps
  descend_inserts hi len e p' U t x z l I A B w H b q v d y f some s =
      inserts_only w (rw (q, d) at t)
      (λ w. ks ≡ way_words w → ValidWay w → o.deed ≡ deed_of w → Spare c (steps w) (n - 1 + steps w) 1
      → Leaves (marks_by o.deed (n - 1)) from.mark p' U.marks (λ t. Does (with_marks U t) c e (steps w) (steps w) 1
      (A ++ under_rows o.id o.deps.at n w B)))
      (λ p a q v d s. rw (marks_all o.deed (n - 1) (ap is_delete d))
      (I A B p a H b (first_words hi len p q x z) v.1 d l f some
      (record { rows_spare = s.rows_spare; marks_spare = omega (arith, some, s.marks_spare); values_spare = s.values_spare })))
      q v d s

-- The row of the first key.

module _ (o : Act) (n : ℕ) (ks : List ℕ) (from : Position) (c : Counts) (T : Tables) (hi lo len left : ℕ)
    (long : 3 ≤ length ks) (here : inserts_here (length ks) o.deed ≡ false) (first : hi ≡ get_or ks 0 0) (second : lo ≡ get_or ks 1 0)
    (third : len ≡ get_or ks 2 0) (behind-it : left + 3 ≡ length ks) (shallow : n ≤ 8)
    (U : Tables) (x : Option (Position × Counts))
    (L : Leads (search_of n (three_key hi lo len)) (may_make len left o.deed) c from T U x) where
  going : (w : Way) → ks ≡ way_words w → o.deed ≡ deed_of w → ValidWay w → Goes o.id o.deps.at n hi lo len left o.deed w
  going w e d v = goes o.id o.deps.at n hi lo len left ks o.deed w e d v long here first second third behind-it

  -- it isn't there
  pub descend_stays : x ≡ None → Descends o n ks from c T c c.marks U
  unfolding search_of
  descend_stays t A B w H b e val d y f some s =
      let g = going w e d val in
      let p = g.one_more in
      let S : Stays T U (changing n g.pass g.meant (may_make len left o.deed) g.spot B) B =
      subst (Lands T U c n (changing n g.pass g.meant (may_make len left o.deed) g.spot B) A B) t
      (L A B g.pass g.meant g.spot H b g.agrees g.tells (g.making c (omega (arith, s.rows_spare)) shallow)) in
      let q : A ++ B ≡ A ++ under_rows o.id o.deps.at n w B = ap (A ++◌) (sym (g.change B ∙ S.nothing _)) in
      rw S.same (stays o n ks from c T A B w H b s _ (record {
        holds = subst (Holds T c) q H;
        rows_more = omega arith;
        marks_more = omega arith;
        values_more = omega arith;
      }))

  module _ (at : Position) (c₁ : Counts) (t : x ≡ Some (at, c₁)) (A B : List Row) (w : Way) (H : Holds T c (A ++ B)) (b : from ≡ behind A)
      (e : ks ≡ way_words w) (val : ValidWay w) (d : o.deed ≡ deed_of w) (y : n + steps w ≤ 9) (f : Fresh o.id B)
      (s : Spare c (steps w) (n - 1 + steps w) 1) where
    g : Goes o.id o.deps.at n hi lo len left o.deed w
    g = going w e d val

    change : (Block → Block) → List Row
    change = changing n g.pass g.meant (may_make len left o.deed) g.spot B

    -- it is there, or was made
    arrives : Arrives U c at c₁ n change A B
    unfolding search_of change
    arrives = subst (Lands T U c n change A B) t (L A B g.pass g.meant g.spot H b g.agrees g.tells
        (g.making c (omega (arith, s.rows_spare, g.one_more)) shallow))

    -- what is done to its block is done to the rows
    landed : (U : Tables) (a₁ : Counts) (r : Row) (P R : List Row)
        → ((f : Block → Block) → change f ≡ P ++ (join (f (block_at n r R)) ++ rest (deeper n) R))
        → Holds U a₁ ((A ++ P) ++ (join (run_block o.id o.deps.at n g.next (block_at n r R)) ++ rest (deeper n) R))
        → Holds U a₁ (A ++ under_rows o.id o.deps.at n w B)
    unfolding change
    landed U a₁ r P R l N =
        subst (Holds U a₁) (append_assoc A P _ ∙ ap (A ++◌) (sym (g.change B ∙ l _))) N

    held : Holds U c₁ ((A ++ arrives.before) ++ arrives.row ∷ arrives.beyond)
    held = subst (Holds U c₁) (sym (append_assoc A arrives.before _)) arrives.holds

    fresh : Fresh o.id (arrives.row ∷ arrives.beyond)
    fresh = arrives.fresh o.id f

  -- the way ends there
  pub descend_finishes : (at : Position) (c₁ e : Counts) (p' : ℕ) (h₂ m₂ v₂ : List ℕ) → x ≡ Some (at, c₁) → length ks ≡ 3
      → Finishes o n at c₁ U.heads U.marks U.values e p' h₂ m₂ v₂ → Descends o n ks from c T e p' (four h₂ U.keys m₂ v₂)
  descend_finishes at c₁ e p' h₂ m₂ v₂ t l F A B w H b q val d y f some s =
      let G = g at c₁ t A B w H b q val d y f s in
      let a = arrives at c₁ t A B w H b q val d y f s in
      let p = G.one_more in
      let z : length (way_words G.next) ≡ 0 = omega (arith, l, ap length q, ap length G.words) in
      let L = F U.keys (A ++ a.before) a.beyond a.row G.next (held at c₁ t A B w H b q val d y f s) a.here (empty_list_lem _ z) G.valid
      (d ∙ G.deed_same)
      ((fresh at c₁ t A B w H b q val d y f s).0, (fresh at c₁ t A B w H b q val d y f s).1, tt) some
      (record {
        rows_spare = omega (arith, a.rows_more, s.rows_spare);
        marks_spare = omega (arith, a.marks_same, s.marks_spare);
        values_spare = omega (arith, a.values_same, s.values_spare);
      }) in
      let D = L.is in
      record {
        table = L.table;
        gap = L.gap;
        before = omega (arith, L.before, mark-further from at A a.before b a.here);
        is = record {
          holds = landed at c₁ t A B w H b q val d y f s _ e a.row a.before a.beyond a.reached.leads
              (rw a.reached.deep at D.holds);
          rows_more = omega (arith, D.rows_more, a.rows_more);
          marks_more = omega (arith, D.marks_more, a.marks_same);
          values_more = omega (arith, D.values_more, a.values_same);
        };
      }

  -- the way goes on from there
  entered : (w : Way) (r : Row) (R : List Row) → GoesOn w
      → enter_row o.id w r ∷ under_rows o.id o.deps.at (n + 1) w R
      ≡ join (run_block o.id o.deps.at n w (block_at n r R)) ++ rest (deeper n) R
  entered w r R g =
      let us = passed (deeper n) R in
      let X = rest (deeper n) R in
      ap (λ x. enter_row o.id w r ∷ under_rows o.id o.deps.at x w R) (add-one n)
      ∙ (ap (enter_row o.id w r ∷◌) (ap (under_rows o.id o.deps.at (suc n) w) (sym (passed-rest (deeper n) R))
      ∙ rows_within n X (shallow_rest n R) o.id o.deps.at w us)
      ∙ ap (λ b. join b ++ X) (sym (run_under o.id o.deps.at n w (block_at n r R) g)))

  pub descend_goes : (at p : Position) (c₁ e₁ e : Counts) (p₁ p₂ : ℕ) (h₂ k₂ m₂ v₂ h₃ m₃ ks' : List ℕ) (side : Side) → x ≡ Some (at, c₁)
      → 6 ≤ length ks → ks' ≡ drop 3 ks → side ≡ side_by (get_or ks 5 0) → Passes U.heads at p
      → Descends o (n + 1) ks' p c₁ U e₁ p₁ (four h₂ k₂ m₂ v₂)
      → Enters o side n at e₁ p₁ h₂ m₂ e p₂ h₃ m₃ → Descends o n ks from c T e p₂ (four h₃ k₂ m₃ v₂)
  descend_goes at p c₁ e₁ e p₁ p₂ h₂ k₂ m₂ v₂ h₃ m₃ ks' side t l qk ql P D E A B w H b q val d y f some s =
      let G = g at c₁ t A B w H b q val d y f s in
      let a = arrives at c₁ t A B w H b q val d y f s in
      let fr = fresh at c₁ t A B w H b q val d y f s in
      let N = held at c₁ t A B w H b q val d y f s in
      let one = G.one_more in
      let words : ks ≡ hi ∷ lo ∷ len ∷ way_words G.next = q ∙ G.words in
      let on = goes_on G.next (omega (arith, l, ap length words)) in
      let W = A ++ a.before in
      let r = a.row in
      let R = a.beyond in
      let next = passes U.heads U.keys U.marks U.values c₁ W R r N at p P a.here in
      let L₁ = D (W ++ r ∷ []) R G.next (subst (Holds U c₁) (sym (append_assoc W (r ∷ []) R)) N)
      next (qk ∙ ap (drop 3) words) G.valid (d ∙ G.deed_same)
      (omega (arith, y)) fr.2 (omega arith) (record {
        rows_spare = omega (arith, a.rows_more, s.rows_spare);
        marks_spare = omega (arith, some, a.marks_same, s.marks_spare);
        values_spare = omega (arith, a.values_same, s.values_spare);
      }) in
      let D₁ = L₁.is in
      let t₁ = L₁.table in
      let u : n + 1 - 1 ≡ n = omega arith in
      let U = under_rows o.id o.deps.at (n + 1) G.next R in
      let N₂ = subst (Holds (four h₂ k₂ t₁ v₂) e₁) (append_assoc W (r ∷ []) U) D₁.holds in
      let o₁ : side ≡ way_side G.next =
      ql ∙ (ap (λ l. side_by (get_or l 5 0)) words ∙ ap (λ b. cond b Sides.List Sides.Map) (third_word G.next on G.valid)) in
      let L₂ = E k₂ t₁ v₂ W U r G.next (subst (λ i. Gap (marks_by o.deed i) p₁ m₂ t₁) u L₁.gap) N₂ a.here o₁ (d ∙ G.deed_same)
      (fr.0, fr.1, tt) (record {
        rows_spare = omega (arith, D₁.rows_more, a.rows_more, s.rows_spare);
        marks_spare = omega (arith, D₁.marks_more, a.marks_same, s.marks_spare);
        values_spare = omega (arith, D₁.values_more, a.values_same, s.values_spare);
      }) some (omega (arith, L₁.before, mark-next at p W r a.here next)) in
      let E₁ = L₂.is in
      record {
        table = L₂.table;
        gap = L₂.gap;
        before = omega (arith, L₂.before, mark-further from at A a.before b a.here);
        is = record {
          holds = landed at c₁ t A B w H b q val d y f s (four h₃ k₂ L₂.table v₂) e r a.before R a.reached.leads
              (subst (λ X. Holds (four h₃ k₂ L₂.table v₂) e (W ++ X)) (entered G.next r R on) E₁.holds);
          rows_more = omega (arith, E₁.rows_more, D₁.rows_more, a.rows_more);
          marks_more = omega (arith, E₁.marks_more, D₁.marks_more, a.marks_same);
          values_more = omega (arith, E₁.values_more, D₁.values_more, a.values_same);
        };
      }
