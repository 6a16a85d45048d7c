-- A way weighed key by key: it ends here, this is its last key, or it goes on under the place that was found.
-- Assumes nothing.
use Prim.Native.Nat.{ℕ, suc, ◌+◌, ◌-◌, ◌≤◌, ◌<◌}
use native.Mathlib.Omega.{arith}
use native.Mathlib.Numerals.{add-one}
use mathlib.Core.Path.{◌≡◌, refl, sym, ap, ◌∙◌, subst}
use mathlib.Core.Bool.{Bool, true}
use mathlib.Core.List.{List, [], ◌∷◌, ◌++◌, append_assoc, append-nil}
use lib.Dec.{eqb}
use lib.ListN.{length, get_or, take, drop, length-drop}
use lib.Seq.{take_all}
use Rattle.meaning.specs.Ids.{covered}
use Rattle.meaning.specs.Valid.{ValidWay}
use Rattle.meaning.specs.Ways.{Prev, head, after, Way, assign, delete, insert, into_map, into_list, steps, makes}
use Rattle.meaning.specs.Sheet.{Spot, in_map, in_list, Row}
use Rattle.rows.specs.Blocks.{passed, rest, deeper}
use Rattle.rows.specs.Locate.{Located, nowhere, here, under_of, elements_found_rows}
use Rattle.rows.specs.Balanced.{passed-rest}
use Rattle.rows.specs.Within.{under_change, GoesOn, shallow_rest, change-within, found_within}
use Rattle.message.specs.Means.{way_words, prev_words, deed_of}
use Rattle.tables.specs.Words.{spot_words}
use Rattle.tables.specs.Finds.{GoodSpot}
use Rattle.readers.specs.Hex.{words_in}
use Rattle.tables.specs.Heads.{key_in}
use Rattle.tables.specs.Wants.{pass_of, meant_of, spot_agrees, spot_tells}
use Rattle.tables.specs.Holding.{Holds, four}
use Rattle.tables.specs.Seek.{Passes}
use Rattle.tables.specs.Stands.{passes}
use Rattle.tables.specs.declared.Counts.{Counts}
use Rattle.tables.specs.declared.Position.{Position}
use Rattle.message.specs.declared.Deed.{Deed}
use Rattle.std.specs.Prelude.{Option, None, Some, is_some, Ok}
use Rattle.std.specs.Option.{MatchOption, IsSomeAnd}
use Rattle.finder.specs.Looks.{Sees, missing, standing, hanging, HangsBehind, Looks}
use Rattle.forecast.specs.Weighs.{or_new, Alike, Forecast, Weighs, nothing_weighed, marked, carried, WayWeighed}
use Rattle.forecast.proofs.Weights.{carried_places, carried_marks, marked_marks, marked_places, mark-is}
use Rattle.forecast.proofs.Ways.{into, locate_at, sees_there, carry_into}

-- A way that goes on has a key.

prev_three : (p : Prev) → length (prev_words p) ≡ 3
unfolding prev_words
prev_three head = refl
prev_three (after e) = refl

three_words : (w : Way) → GoesOn w → 3 ≤ length (way_words w)
unfolding way_words
three_words (insert p a) g = omega (arith, prev_three p)
three_words (into_map k w) g = omega arith
three_words (into_list e w) g = omega arith
three_words (assign _) g = elim g [ ]
three_words delete g = elim g [ ]

one-step : (w : Way) → GoesOn w → 1 ≤ steps w
unfolding steps
one-step (insert p a) g = omega arith
one-step (into_map k w) g = omega arith
one-step (into_list e w) g = omega arith
one-step (assign _) g = elim g [ ]
one-step delete g = elim g [ ]

goes_on : (w : Way) → (way_words w ≡ [] → ⊥) → GoesOn w
unfolding way_words
goes_on (assign a) f = f refl
goes_on delete f = f refl
goes_on (insert p a) f = tt
goes_on (into_map k w) f = tt
goes_on (into_list e w) f = tt

goes_makes : (w : Way) → GoesOn w → true ≡ makes w
unfolding makes
goes_makes (insert p a) g = refl
goes_makes (into_map k w) g = refl
goes_makes (into_list e w) g = refl
goes_makes (assign _) g = elim g [ ]
goes_makes delete g = elim g [ ]

module _ (h k m v : List ℕ) (rows : ℕ) (from : Option Position) (n : ℕ) (d : List ℕ) (deed : Deed) (way : List ℕ) where
  -- it ends here
  pub ends_weighed : ((w : Way) → GoesOn w → way ≡ way_words w → n + steps w ≤ 9 → ⊥)
      → WayWeighed h k m v rows from n d deed way (Ok nothing_weighed)
  unfolding elements_found_rows under_change
  ends_weighed never = record {
    few_places = omega arith;
    few_marks = omega arith;
    is = λ c A B w H q f e g ok N. all w (hanging from B) e N;
  }
    where
      all : (w : Way) (us : List Row) → way ≡ way_words w → n + steps w ≤ 9
          → Weighs (elements_found_rows d n w us) (under_change d n w us) (Ok nothing_weighed)
      all (assign a) us e N =
          record {
            found_is = refl;
            counted = record { places = refl; marks = refl; values = refl; gone_marks = refl; gone-values = refl };
          }
      all delete us e N =
          record {
            found_is = refl;
            counted = record { places = refl; marks = refl; values = refl; gone_marks = refl; gone-values = refl };
          }
      all (insert p a) us e N = absurd (never (insert p a) tt e N)
      all (into_map t w) us e N = absurd (never (into_map t w) tt e N)
      all (into_list i w) us e N = absurd (never (into_list i w) tt e N)

  pub short_weighed : length way < 3 → WayWeighed h k m v rows from n d deed way (Ok nothing_weighed)
  short_weighed l = ends_weighed (λ w g e N. omega (arith, three_words w g, ap length e))

  pub deep_weighed : 8 < n → WayWeighed h k m v rows from n d deed way (Ok nothing_weighed)
  deep_weighed l = ends_weighed (λ w g e N. omega (arith, one-step w g))

  -- its last key
  pub last_weighed : length way ≡ 3 → (x : Forecast)
      → WayWeighed h k m v rows from n d deed (get_or way 0 0 ∷ get_or way 1 0 ∷ get_or way 2 0 ∷ []) x
      → WayWeighed h k m v rows from n d deed way x
  last_weighed l x W = subst (λ way. WayWeighed h k m v rows from n d deed way x) (go way l) W
    where
      go : (l : List ℕ) → length l ≡ 3 → get_or l 0 0 ∷ get_or l 1 0 ∷ get_or l 2 0 ∷ [] ≡ l
      go [] e = absurd (omega arith)
      go (a ∷ []) e = absurd (omega arith)
      go (a ∷ b ∷ []) e = absurd (omega arith)
      go (a ∷ b ∷ c ∷ []) e = refl
      go (a ∷ b ∷ c ∷ z ∷ l) e = absurd (omega arith)

-- It goes on.

-- the place behind the row of a place, if that is there
abbrev pub PassesTo : List ℕ → Option Position → Option Position → Type 0
PassesTo heads s next = MatchOption s (next ≡ None) (λ at. IsSomeAnd next (λ r. Passes heads at r))

behind_it : (heads : List ℕ) (at : Position) (next : Option Position) → PassesTo heads (Some at) next
    → (r : Position) × (next ≡ Some r) × Passes heads at r
behind_it heads at None p = absurd p
behind_it heads at (Some r) p = (r, refl, p)

or_new_lem : (n : ℕ) (p : Spot) (l : Located) → (or_new n p l).under ≡ under_of l
or_new_lem n p nowhere = refl
or_new_lem n p (here b) = refl

-- what is weighed behind the row that was found is what is weighed under it
module _ (d : List ℕ) (n : ℕ) (w : Way) (x : Forecast) where
  within : (R : List Row) → Weighs (elements_found_rows d (suc n) w R) (under_change d (suc n) w R) x
      → Weighs (elements_found_rows d (suc n) w (passed (deeper n) R)) (under_change d (suc n) w (passed (deeper n) R)) x
  within R W =
      let us = passed (deeper n) R in
      let e = sym (passed-rest (deeper n) R) in
      let s = shallow_rest n R in
      let a = ap (elements_found_rows d (suc n) w) e ∙ found_within n (rest (deeper n) R) s d w us in
      let b = ap (under_change d (suc n) w) e ∙ change-within n (rest (deeper n) R) s d w us in
      subst (λ t. Weighs t (under_change d (suc n) w us) x) a (subst (λ c. Weighs (elements_found_rows d (suc n) w R) c x) b W)

module _ (h k m v : List ℕ) (rows : ℕ) (n : ℕ) (d : List ℕ) (deed : Deed) (words : List ℕ) (s next : Option Position) (x : Forecast)
    (past : PassesTo h s next) (under : WayWeighed h k m v rows next (n + 1) d deed words x) where
  below : (c : Counts) (rs : List Row) (w : Way) (l : Located) → Holds (four h k m v) c rs → rows ≡ c.rows → Sees rs n s l
      → words ≡ way_words w → Alike deed (deed_of w) → ValidWay w → n + suc (steps w) ≤ 9
      → Weighs (elements_found_rows d (suc n) w (under_of l)) (under_change d (suc n) w (under_of l)) x
  below c rs w l H q (missing f y) e g ok N =
      let none : next ≡ None = subst (λ s. PassesTo h s next) f past in
      let U = subst (λ i. WayWeighed h k m v rows i (n + 1) d deed words x) none under in
      let a = U.is c rs [] w (subst (Holds (four h k m v) c) (sym (append-nil rs)) H) q tt e g ok (omega arith) in
      let z = subst (λ i. Weighs (elements_found_rows d i w []) (under_change d i w []) x) (add-one n) a in
      subst (λ l. Weighs (elements_found_rows d (suc n) w (under_of l)) (under_change d (suc n) w (under_of l)) x) (sym y) z
  below c rs w l H q (standing at F r R t y b i j) e g ok N =
      let K = subst (Holds (four h k m v) c) y H in
      let K' = subst (Holds (four h k m v) c) (sym (append_assoc F (r ∷ []) R)) K in
      let P = behind_it h at next (subst (λ s. PassesTo h s next) t past) in
      let U = subst (λ i. WayWeighed h k m v rows i (n + 1) d deed words x) P.1 under in
      let a = U.is c (F ++ r ∷ []) R w K' q (passes h k m v c F R r K at P.0 P.2 b) e g ok (omega arith) in
      let z = subst (λ i. Weighs (elements_found_rows d i w R) (under_change d i w R) x) (add-one n) a in
      subst (λ l. Weighs (elements_found_rows d (suc n) w (under_of l)) (under_change d (suc n) w (under_of l)) x) (sym j) (within d n w x R z)

module _ (h k m v : List ℕ) (rows : ℕ) (from : Option Position) (n : ℕ) (d : List ℕ) (deed : Deed) (way : List ℕ)
    (s next : Option Position) (x : Forecast) where
  step_weighed : 3 ≤ length way → (length way ≡ 3 → ⊥)
      → Looks h k rows from n (key_in way) s → PassesTo h s next → WayWeighed h k m v rows next (n + 1) d deed (drop 3 way) x
      → WayWeighed h k m v rows from n d deed way
      (carried (marked x deed) (is_some s) (eqb (get_or way 2 0) 17) (covered d (get_or way 0 0)) true)
  unfolding way_words deed_of steps
  step_weighed long more look past under = record {
    few_places = omega (
      arith,
      carried_places U (is_some s) (eqb (get_or way 2 0) 17) (covered d (get_or way 0 0)) true,
      marked_places x deed,
      under.few_places,
      length-drop 3 way,
    );
    few_marks = omega (
      arith,
      carried_marks U (is_some s) (eqb (get_or way 2 0) 17) (covered d (get_or way 0 0)) true,
      marked_marks x deed,
      under.few_marks,
      length-drop 3 way,
    );
    is = λ c A B w H q f e g ok N. all c A B w H q f e g ok N;
  }
    where
      U : Forecast
      U = marked x deed

      X : Forecast
      X = carried U (is_some s) (eqb (get_or way 2 0) 17) (covered d (get_or way 0 0)) true

      go : (c : Counts) (A B : List Row) (p : Spot) (w : Way) → Holds (four h k m v) c (A ++ B) → rows ≡ c.rows → HangsBehind from A
          → words_in (key_in way) ≡ spot_words p → drop 3 way ≡ way_words w → Alike deed (deed_of w)
          → GoodSpot p → ValidWay w → n + suc (steps w) ≤ 9
          → Weighs (elements_found_rows d n (into p w) (hanging from B)) (under_change d n (into p w) (hanging from B)) X
      go c A B p w H q f e t g good ok N =
          let us = hanging from B in
          let L = locate_at n p us in
          let S = look m v c A B (pass_of p) (meant_of p) H q f (spot_agrees n (key_in way) p e good) (spot_tells n (key_in way) p e good) in
          let on = goes_on w (λ z. more (omega (arith, long, length-drop 3 way, ap length (t ∙ z)))) in
          let W = below h k m v rows n d deed (drop 3 way) s next x past under c (A ++ B) w L H q S t g ok N in
          let W' = subst (λ us. Weighs (elements_found_rows d (suc n) w (under_of L)) (under_change d (suc n) w us) x) (sym (or_new_lem n p L)) W in
          carry_into d n w us U (is_some s) true (key_in way) p e good (sees_there (A ++ B) n s L S) (goes_makes w on)
          (mark-is d n w (or_new n p L) (elements_found_rows d (suc n) w (under_of L)) x deed on g W')

      all : (c : Counts) (A B : List Row) (w : Way) → Holds (four h k m v) c (A ++ B) → rows ≡ c.rows → HangsBehind from A
          → way ≡ way_words w → Alike deed (deed_of w) → ValidWay w → n + steps w ≤ 9
          → Weighs (elements_found_rows d n w (hanging from B)) (under_change d n w (hanging from B)) X
      all c A B (assign a) H q f e g ok N = absurd (omega (arith, long, ap length e))
      all c A B delete H q f e g ok N = absurd (omega (arith, long, ap length e))
      all c A B (insert p a) H q f e g ok N = absurd (more (ap length e ∙ prev_three p))
      all c A B (into_map t w) H q f e g ok N =
          go c A B (in_map t) w H q f (ap (λ l. get_or l 0 0 ∷ get_or l 1 0 ∷ get_or l 2 0 ∷ []) e) (ap (drop 3) e) g ok.0 ok.1 N
      all c A B (into_list i w) H q f e g ok N =
          go c A B (in_list i) w H q f (ap (λ l. get_or l 0 0 ∷ get_or l 1 0 ∷ get_or l 2 0 ∷ []) e) (ap (drop 3) e) g tt ok.1 N

  -- the same as the code has it: the rest of the way is a part of it, and each step has its result
  pub part_weighed : (z y : Forecast) (there covers : Bool) → 3 ≤ length way → (length way ≡ 3 → ⊥)
      → Looks h k rows from n (key_in way) s → PassesTo h s next
      → WayWeighed h k m v rows next (n + 1) d deed (take (length way - 3) (drop 3 way)) x
      → z ≡ marked x deed → there ≡ is_some s → covers ≡ covered d (get_or way 0 0)
      → y ≡ carried z there (eqb (get_or way 2 0) 17) covers true
      → WayWeighed h k m v rows from n d deed way y
  part_weighed z y there covers long more look past under f b g e =
      let all = take_all (length way - 3) (drop 3 way) (omega (arith, length-drop 3 way)) in
      rw (e, f, b, g) (step_weighed long more look past (subst (λ l. WayWeighed h k m v rows next (n + 1) d deed l x) all under))
