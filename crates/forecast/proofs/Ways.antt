-- Ways weighed from a place on: their last key, and one key more.
-- Assumes nothing.
use Prim.Native.Nat.{ℕ, suc, ◌≤◌}
use native.Mathlib.Omega.{arith}
use mathlib.Core.Path.{◌≡◌, refl, sym, ap, ◌∙◌, subst}
use mathlib.Core.Bool.{Bool, true, false, cond, not, ◌&&◌, true≢false, false≢true}
use mathlib.Core.List.{List, [], ◌∷◌, ◌++◌}
use borrow.Author.Tests.{eq-eqb, ne_eqb}
use lib.Dec.{eqb}
use lib.ListN.{length, get_or, drop}
use Rattle.meaning.specs.Ids.{covered}
use Rattle.meaning.specs.Valid.{ValidWay}
use Rattle.meaning.specs.Ways.{Assigned, plain, empty_map, empty_list, head, after}
use Rattle.meaning.specs.Ways.{Way, assign, delete, insert, into_map, into_list, makes}
use Rattle.meaning.specs.Sheet.{Spot, in_map, in_list, Row}
use Rattle.rows.specs.Locate.{Located, locate, locate_key, locate_element, under_of, is_located, elements_found_rows}
use Rattle.rows.specs.Counting.{no_change, new_change, run_change}
use Rattle.rows.specs.Within.{under_change}
use Rattle.message.specs.Means.{way_words, prev_words, deed_of}
use Rattle.tables.specs.Words.{spot_words}
use Rattle.tables.specs.Finds.{GoodSpot}
use Rattle.tables.specs.Wants.{pass_of, meant_of, spot_agrees, spot_tells}
use Rattle.tables.specs.Holding.{Holds, four}
use Rattle.tables.specs.declared.Counts.{Counts}
use Rattle.tables.specs.declared.Position.{Position}
use Rattle.message.specs.declared.Deed.{Deed}
use Rattle.message.specs.declared.Deed.TheVariants as D
use Rattle.readers.specs.declared.Given.{Given}
use Rattle.readers.specs.Given.{given_of}
use Rattle.std.specs.Prelude.{Option, None, Some, is_some, Ok, Err}
use Rattle.std.specs.Bool.{then_some}
use Rattle.std.specs.Option.{ok_or}
use Rattle.forecast.specs.declared.Weight.{Weight}
use Rattle.finder.specs.Looks.{Sees, missing, standing, hanging, HangsBehind, Looks}
use Rattle.deeds.specs.Deeds.{is_delete, is_insert}
use Rattle.forecast.specs.Weighs.{or_new, gives_plain, Alike, Forecast, Counted, weight_of, Weighs, nothing_weighed}
use Rattle.forecast.specs.Weighs.{element_weighed, carried, PlaceWeighed, WayWeighed}
use Rattle.forecast.proofs.Weights.{is_plain, given_plain, Ends, ends, and_false, map_carry, list_carry, carried_places, carried_marks}
use Rattle.readers.specs.Hex.{words_in}
use Rattle.readers.specs.declared.Key.{Key}

-- A key and what follows it.

abbrev pub into : Spot → Way → Way
into (in_map k) w = into_map k w
into (in_list e) w = into_list e w

abbrev pub locate_at : ℕ → Spot → List Row → Located
locate_at n p rs = locate n (pass_of p) (meant_of p) rs

pub sees_there : (rs : List Row) (n : ℕ) (s : Option Position) (l : Located) → Sees rs n s l → is_some s ≡ is_located l
sees_there rs n s l (missing f x) = ap is_some f ∙ sym (ap is_located x)
sees_there rs n s l (standing at F r R y e b z x) = ap is_some y ∙ sym (ap is_located x)

-- the third word tells
third : (p : Spot) (y : Key) → words_in y ≡ spot_words p → y.len ≡ get_or (spot_words p) 2 0
third p y e = ap (λ l. get_or l 2 0) e

firstly : (p : Spot) (y : Key) → words_in y ≡ spot_words p → y.hi ≡ get_or (spot_words p) 0 0
firstly p y e = ap (λ l. get_or l 0 0) e

module _ (d : List ℕ) (n : ℕ) (w : Way) (rs : List Row) where
  pub carry_into : (u : Forecast) (there new : Bool) (y : Key) (p : Spot) → words_in y ≡ spot_words p → GoodSpot p
      → there ≡ is_located (locate_at n p rs) → new ≡ makes w
      → Weighs (elements_found_rows d (suc n) w (under_of (locate_at n p rs))) (run_change d n w (or_new n p (locate_at n p rs))) u
      → Weighs (elements_found_rows d n (into p w) rs) (under_change d n (into p w) rs) (carried u there (eqb y.len 17) (covered d y.hi) new)
  unfolding elements_found_rows under_change locate_key locate_element
  carry_into u there new y (in_map k) e g t m W =
      let f : eqb y.len 17 ≡ false = ne_eqb y.len 17 (λ q. omega (arith, g.short, third (in_map k) y e)) in
      let L = locate_at n (in_map k) rs in
      rw (f, t, m) (map_carry d n (in_map k) w u L (covered d y.hi) W)
  carry_into u there new y (in_list i) e g t m W =
      let f : eqb y.len 17 ≡ true = eq-eqb y.len 17 (third (in_list i) y e) in
      let h : y.hi ≡ i = firstly (in_list i) y e in
      let L = locate_at n (in_list i) rs in
      rw (f, t, h) (list_carry d n (in_list i) w u L i new W)

-- The last key.

ends-makes : (w : Way) → Ends w → not (is_delete (deed_of w)) ≡ makes w
unfolding deed_of makes
ends-makes (assign a) e = refl
ends-makes delete e = refl
ends-makes (insert _ _) e = elim e [ ]
ends-makes (into_map _ _) e = elim e [ ]
ends-makes (into_list _ _) e = elim e [ ]

ends_found : (d : List ℕ) (n : ℕ) (w : Way) (rs : List Row) → Ends w → elements_found_rows d n w rs ≡ true
unfolding elements_found_rows
ends_found d n (assign a) rs e = refl
ends_found d n delete rs e = refl
ends_found d n (insert _ _) rs e = elim e [ ]
ends_found d n (into_map _ _) rs e = elim e [ ]
ends_found d n (into_list _ _) rs e = elim e [ ]

-- such a way doesn't end in an insert
ends_other : (w : Way) (deed : Deed) → Ends w → is_insert deed ≡ true → Alike deed (deed_of w) → ⊥
unfolding deed_of
ends_other (assign a) deed e i q = true≢false (sym i ∙ q.inserts)
ends_other delete deed e i q = true≢false (sym i ∙ q.inserts)
ends_other (insert _ _) deed e i q = elim e [ ]
ends_other (into_map _ _) deed e i q = elim e [ ]
ends_other (into_list _ _) deed e i q = elim e [ ]

no_insert : (deed : Deed) → ((g : Given) → deed ≡ D.Insert g → ⊥) → is_insert deed ≡ true → ⊥
no_insert (D.Assign g) other e = false≢true e
no_insert (D.Insert g) other e = other g refl
no_insert D.Delete other e = false≢true e

element_is : (a : Assigned) (deed : Deed) → Alike deed (D.Insert (given_of a)) → Counted (new_change a) (element_weighed deed)
element_is a deed e = rw e.deletes (go a (gives_plain deed) (e.plain ∙ given_plain a))
  where
    go : (a : Assigned) (p : Bool) → p ≡ is_plain a
        → Counted (new_change a) (record { places = 1; marks = 1; values = cond p 1 0; gone_marks = 0; gone_values = 0 })
    go (plain x) true e = record { places = refl; marks = refl; values = refl; gone_marks = refl; gone-values = refl }
    go (plain x) false e = absurd (false≢true e)
    go empty_map false e = record { places = refl; marks = refl; values = refl; gone_marks = refl; gone-values = refl }
    go empty_map true e = absurd (true≢false e)
    go empty_list false e = record { places = refl; marks = refl; values = refl; gone_marks = refl; gone-values = refl }
    go empty_list true e = absurd (true≢false e)

element_few : (deed : Deed) → (element_weighed deed).marks ≤ 1
element_few (D.Assign g) = omega arith
element_few (D.Insert g) = omega arith
element_few D.Delete = omega arith

module _ (h k m v : List ℕ) (rows : ℕ) (from : Option Position) (n : ℕ) (d : List ℕ) (deed : Deed) (y : Key) where
  some_words : (words_in y ≡ []) → ⊥
  some_words e = let z : ◌≡◌ {A = ℕ} 3 0 = ap length e in omega arith

  pub target_weighed : (s : Option Position) (u : Weight) → ((g : Given) → deed ≡ D.Insert g → ⊥) → Looks h k rows from n y s
      → PlaceWeighed h m v rows s d deed u
      → WayWeighed h k m v rows from n d deed (words_in y)
      (carried (Ok u) (is_some s) (eqb y.len 17) (covered d y.hi) (not (is_delete deed)))
  unfolding way_words deed_of
  target_weighed s u other look place = record {
    few_places = omega (arith, carried_places (Ok u) (is_some s) (eqb y.len 17) (covered d y.hi) (not (is_delete deed)), place.few_places);
    few_marks = omega (arith, carried_marks (Ok u) (is_some s) (eqb y.len 17) (covered d y.hi) (not (is_delete deed)), place.few_marks);
    is = λ c A B w H q f e g ok N. all c A B w H q f e g ok;
  }
    where
      X : Forecast
      X = carried (Ok u) (is_some s) (eqb y.len 17) (covered d y.hi) (not (is_delete deed))

      go : (c : Counts) (A B : List Row) (p : Spot) (w : Way) → Holds (four h k m v) c (A ++ B) → rows ≡ c.rows → HangsBehind from A
          → words_in y ≡ spot_words p → way_words w ≡ [] → Alike deed (deed_of w) → GoodSpot p
          → Weighs (elements_found_rows d n (into p w) (hanging from B)) (under_change d n (into p w) (hanging from B)) X
      go c A B p w H q f e z g ok =
          let rs = hanging from B in
          let L = locate_at n p rs in
          let S = look m v c A B (pass_of p) (meant_of p) H q f (spot_agrees n y p e ok) (spot_tells n y p e ok) in
          let W = place.is k c (A ++ B) n p L w H q S z g in
          carry_into d n w rs (Ok u) (is_some s) (not (is_delete deed)) y p e ok (sees_there (A ++ B) n s L S)
          (ap not g.deletes ∙ ends-makes w (ends w z)) (record { found_is = sym (ends_found d (suc n) w (under_of L) (ends w z)); counted = W })

      all : (c : Counts) (A B : List Row) (w : Way) → Holds (four h k m v) c (A ++ B) → rows ≡ c.rows → HangsBehind from A
          → words_in y ≡ way_words w → Alike deed (deed_of w) → ValidWay w
          → Weighs (elements_found_rows d n w (hanging from B)) (under_change d n w (hanging from B)) X
      all c A B (assign a) H q f e g ok = absurd (some_words e)
      all c A B delete H q f e g ok = absurd (some_words e)
      all c A B (insert p a) H q f e g ok = absurd (no_insert deed other g.inserts)
      all c A B (into_map t w) H q f e g ok =
          go c A B (in_map t) w H q f (ap (λ l. get_or l 0 0 ∷ get_or l 1 0 ∷ get_or l 2 0 ∷ []) e) (sym (ap (drop 3) e)) g ok.0
      all c A B (into_list i w) H q f e g ok =
          go c A B (in_list i) w H q f (ap (λ l. get_or l 0 0 ∷ get_or l 1 0 ∷ get_or l 2 0 ∷ []) e) (sym (ap (drop 3) e)) g tt

  module _ (given : Given) (inserts : deed ≡ D.Insert given) where
    -- an insert, by what it comes after
    pub insert_weighed : (x : Forecast) → (weight_of x).places ≤ 1 → (weight_of x).marks ≤ 1
        → ((a : Assigned) → y.len ≡ 18 → Alike deed (D.Insert (given_of a)) → Weighs true (new_change a) x)
        → ((c : Counts) (A B : List Row) (a : Assigned) (e : ℕ) → Holds (four h k m v) c (A ++ B) → rows ≡ c.rows → HangsBehind from A
        → words_in y ≡ spot_words (in_list e) → Alike deed (D.Insert (given_of a))
        → Weighs (covered d e && is_located (locate_at n (in_list e) (hanging from B)))
        (cond (is_located (locate_at n (in_list e) (hanging from B))) (new_change a) no_change) x)
        → WayWeighed h k m v rows from n d deed (words_in y) x
    unfolding way_words prev_words deed_of elements_found_rows under_change locate_element
    insert_weighed x fp fm first other = record {
      few_places = omega arith;
      few_marks = omega arith;
      is = λ c A B w H q f e g ok N. all c A B w H q f e g;
    }
      where
        all : (c : Counts) (A B : List Row) (w : Way) → Holds (four h k m v) c (A ++ B) → rows ≡ c.rows → HangsBehind from A
            → words_in y ≡ way_words w → Alike deed (deed_of w)
            → Weighs (elements_found_rows d n w (hanging from B)) (under_change d n w (hanging from B)) x
        all c A B (assign a) H q f e g = absurd (some_words e)
        all c A B delete H q f e g = absurd (some_words e)
        all c A B (insert head a) H q f e g = first a (ap (λ l. get_or l 2 0) e) g
        all c A B (insert (after i) a) H q f e g = other c A B a i H q f e g
        all c A B (into_map t w) H q f e g = absurd (ends_other w deed (ends w (sym (ap (drop 3) e))) (ap is_insert inserts) g)
        all c A B (into_list i w) H q f e g = absurd (ends_other w deed (ends w (sym (ap (drop 3) e))) (ap is_insert inserts) g)

    pub insert_first : y.len ≡ 18 → WayWeighed h k m v rows from n d deed (words_in y) (Ok (element_weighed deed))
    insert_first l =
        insert_weighed (Ok (element_weighed deed)) (omega arith) (element_few deed)
        (λ a q g. record { found_is = refl; counted = element_is a deed g })
        (λ c A B a e H q f z g. absurd (omega (arith, third (in_list e) y z)))

    module _ (s : Option Position) (l : y.len ≡ 18 → ⊥) (look : Looks h k rows from n y s) where
      seen : (c : Counts) (A B : List Row) (e : ℕ) → Holds (four h k m v) c (A ++ B) → rows ≡ c.rows → HangsBehind from A
          → words_in y ≡ spot_words (in_list e) → is_some s ≡ is_located (locate_at n (in_list e) (hanging from B))
      seen c A B e H q f z =
          sees_there (A ++ B) n s _ (look m v c A B (pass_of (in_list e)) (meant_of (in_list e)) H q f (spot_agrees n y (in_list e) z tt)
          (spot_tells n y (in_list e) z tt))

      -- it is there; it may not be covered
      abbrev there : Bool → Forecast
      there b = ok_or (then_some b (element_weighed deed)) (element_weighed deed)

      pub insert_there : (at : Position) → s ≡ Some at → WayWeighed h k m v rows from n d deed (words_in y) (there (covered d y.hi))
      insert_there at t =
          insert_weighed _ (places (covered d y.hi)) (marks (covered d y.hi)) (λ a q g. absurd (l q)) (λ c A B a e H q f z g.
          subst (λ b. Weighs (covered d e && b) (cond b (new_change a) no_change) (there (covered d y.hi)))
          (sym (ap is_some t) ∙ seen c A B e H q f z)
          (subst (λ i. Weighs (covered d e && true) (new_change a) (there (covered d i)))
          (sym (firstly (in_list e) y z)) (go (covered d e) a g)))
        where
          places : (b : Bool) → (weight_of (there b)).places ≤ 1
          places true = omega arith
          places false = omega arith

          marks : (b : Bool) → (weight_of (there b)).marks ≤ 1
          marks true = element_few deed
          marks false = element_few deed

          go : (b : Bool) (a : Assigned) → Alike deed (D.Insert (given_of a)) → Weighs (b && true) (new_change a) (there b)
          go true a g = record { found_is = refl; counted = element_is a deed g }
          go false a g = record { found_is = refl; counted = element_is a deed g }

      pub insert_missing : s ≡ None → WayWeighed h k m v rows from n d deed (words_in y) (Err nothing_weighed)
      insert_missing t =
          insert_weighed (Err nothing_weighed) (omega arith) (omega arith) (λ a q g. absurd (l q)) (λ c A B a e H q f z g.
          subst (λ b. Weighs (covered d e && b) (cond b (new_change a) no_change) (Err nothing_weighed))
          (sym (ap is_some t) ∙ seen c A B e H q f z)
          (record {
            found_is = sym (and_false (covered d e));
            counted = record { places = refl; marks = refl; values = refl; gone_marks = refl; gone-values = refl };
          }))
