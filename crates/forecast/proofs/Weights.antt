-- Weights: of an assign or a delete at its place, of a place under a key that is there or not, of the mark on the way.
-- Assumes nothing.
use Prim.Native.Nat.{ℕ, suc, ◌+◌, ◌≤◌}
use native.Mathlib.Omega.{arith}
use mathlib.Core.Path.{◌≡◌, refl, sym, ap, ◌∙◌, subst}
use mathlib.Core.Bool.{Bool, true, false, cond, ◌&&◌, true≢false, false≢true}
use lib.IntN.{pos, negsuc}
use Rattle.std.specs.Prelude.{Option, Ok, Err}
use Rattle.meaning.specs.Places.{null, bool, integer, string}
use mathlib.Core.List.{List, []}
use lib.ListN.{length}
use Rattle.meaning.specs.Ids.{covered}
use Rattle.meaning.specs.Ways.{Assigned, plain, empty_map, empty_list, Prev, head, after}
use Rattle.meaning.specs.Ways.{Way, assign, delete, insert, into_map, into_list, deletes, makes}
use Rattle.meaning.specs.Sheet.{Spot}
use Rattle.rows.specs.Blocks.{Block}
use Rattle.rows.specs.Locate.{Located, nowhere, here, under_of, is_located, elements_found_rows}
use Rattle.rows.specs.Counting.{no_change, both, adds, give_change, passing_change, new_block, found_change, run_change}
use Rattle.rows.specs.Within.{under_change, GoesOn, run-change}
use Rattle.message.specs.Means.{way_words, prev_words, deed_of}
use Rattle.forecast.specs.declared.Lost.{Lost}
use Rattle.tables.specs.declared.Position.{Position}
use Rattle.message.specs.declared.Deed.{Deed}
use Rattle.message.specs.declared.Deed.TheVariants as D
use Rattle.readers.specs.Given.{given_of}
use Rattle.forecast.specs.declared.Weight.{Weight}
use Rattle.deeds.specs.Deeds.{is_delete}
use Rattle.forecast.specs.Weighs.{or_new, GoesAt, SightGone, plain_given, gives_plain, Alike, Forecast, Counted, weight_of, Weighs}
use Rattle.forecast.specs.Weighs.{nothing_weighed, put_weighed, with_mark, marked, unled, placed, carried, PlaceWeighed}

-- A way that ends here.

pub data Ends : Way → Type 0 where
  gives : (a : Assigned) → Ends (assign a)
  drops : Ends delete

prev_some : (p : Prev) → prev_words p ≡ [] → ⊥
unfolding prev_words
prev_some head e = let z : ◌≡◌ {A = ℕ} 3 0 = ap length e in omega arith
prev_some (after i) e = let z : ◌≡◌ {A = ℕ} 3 0 = ap length e in omega arith

pub ends : (w : Way) → way_words w ≡ [] → Ends w
unfolding way_words
ends (assign a) e = gives a
ends delete e = drops
ends (insert p a) e = absurd (prev_some p e)
ends (into_map k w) e = absurd (let z : suc (suc (suc (length (way_words w)))) ≡ 0 = ap length e in omega arith)
ends (into_list i w) e = absurd (let z : suc (suc (suc (length (way_words w)))) ≡ 0 = ap length e in omega arith)

-- Plain values.

abbrev pub is_plain : Assigned → Bool
is_plain (plain v) = true
is_plain empty_map = false
is_plain empty_list = false

pub given_plain : (a : Assigned) → plain_given (given_of a) ≡ is_plain a
unfolding plain_given given_of
given_plain (plain null) = refl
given_plain (plain (bool true)) = refl
given_plain (plain (bool false)) = refl
given_plain (plain (integer (pos n))) = refl
given_plain (plain (integer (negsuc n))) = refl
given_plain (plain (string b)) = refl
given_plain empty_map = refl
given_plain empty_list = refl

-- What an assign or a delete comes to.

module _ (d : List ℕ) (n : ℕ) (b : Block) (g : Lost) where
  abbrev place_weight : Deed → Weight
  place_weight deed = record {
    places = 0;
    marks = cond (is_delete deed) 0 1;
    values = cond (gives_plain deed) 1 0;
    gone_marks = g.marks;
    gone_values = g.values;
  }

  given_is : (a : Assigned) (p : Bool) → p ≡ is_plain a → GoesAt p d b g
      → Counted (give_change d a b) (record { places = 0; marks = 1; values = cond p 1 0; gone_marks = g.marks; gone_values = g.values })
  unfolding give_change
  given_is (plain v) true e h =
      record { places = refl; marks = refl; values = refl; gone_marks = omega (arith, h.0); gone-values = omega (arith, h.1) }
  given_is (plain v) false e h = absurd (false≢true e)
  given_is empty_map false e h =
      record { places = refl; marks = refl; values = refl; gone_marks = omega (arith, h.marks); gone-values = omega (arith, h.values) }
  given_is empty_map true e h = absurd (true≢false e)
  given_is empty_list false e h =
      record { places = refl; marks = refl; values = refl; gone_marks = omega (arith, h.marks); gone-values = omega (arith, h.values) }
  given_is empty_list true e h = absurd (true≢false e)

  place_is : (w : Way) (deed : Deed) → Ends w → Alike deed (deed_of w) → GoesAt (gives_plain deed) d b g
      → Counted (run_change d n w b) (place_weight deed)
  unfolding deed_of run_change
  place_is (assign a) deed e f h = rw f.deletes (given_is a (gives_plain deed) (f.plain ∙ given_plain a) h)
  place_is delete deed e f h =
      let goes : GoesAt false d b g = subst (λ p. GoesAt p d b g) f.plain h in
      rw (f.deletes, f.plain) (record { places = refl; marks = refl; values = refl; gone_marks = goes.marks; gone-values = goes.values })
  place_is (insert _ _) deed e f h = elim e [ ]
  place_is (into_map _ _) deed e f h = elim e [ ]
  place_is (into_list _ _) deed e f h = elim e [ ]

one_mark : (deed : Deed) → cond (is_delete deed) 0 1 ≤ 1
one_mark (D.Assign g) = omega arith
one_mark (D.Insert g) = omega arith
one_mark D.Delete = omega arith

pub place_weighed : (h m v : List ℕ) (rows : ℕ) (s : Option Position) (d : List ℕ) (deed : Deed) (g : Lost) (u : Weight)
    → SightGone h m v rows s deed d g → u ≡ put_weighed deed → PlaceWeighed h m v rows s d deed
    (record { places = u.places; marks = u.marks; values = u.values; gone_marks = g.marks; gone_values = g.values })
place_weighed h m v rows s d deed g u G a = rw a (record {
  few_places = omega arith;
  few_marks = one_mark deed;
  is = λ k c rs n p t w H q S e f. place_is d n (or_new n p t) g w deed (ends w e) f (G k c rs n p t H q S);
})

-- A place under a key.

pub and_false : (b : Bool) → b && false ≡ false
and_false true = refl
and_false false = refl

module _ (d : List ℕ) (n : ℕ) (p : Spot) (w : Way) where
  placed_is : (u : Weight) → Counted (run_change d n w (new_block n p)) u → (new : Bool)
      → Counted (cond new (both (adds 1 0 0) (run_change d n w (new_block n p))) no_change) (cond new (placed u) nothing_weighed)
  placed_is u C true = record {
    places = omega (arith, C.places);
    marks = omega (arith, C.marks);
    values = omega (arith, C.values);
    gone_marks = omega (arith, C.gone_marks);
    gone-values = omega (arith, C.gone-values);
  }
  placed_is u C false = record { places = refl; marks = refl; values = refl; gone_marks = refl; gone-values = refl }

  pub map_carry : (u : Forecast) (l : Located) (covers : Bool)
      → Weighs (elements_found_rows d (suc n) w (under_of l)) (run_change d n w (or_new n p l)) u
      → Weighs (elements_found_rows d (suc n) w (under_of l)) (found_change (run_change d n w) (makes w) n p l)
      (carried u (is_located l) false covers (makes w))
  unfolding carried
  map_carry u (here b) covers W = W
  map_carry (Ok u) nowhere covers W = record { found_is = W.found_is; counted = placed_is u W.counted (makes w) }
  map_carry (Err u) nowhere covers W = record { found_is = W.found_is; counted = placed_is u W.counted (makes w) }

  pub list_carry : (u : Forecast) (l : Located) (e : ℕ) (new : Bool)
      → Weighs (elements_found_rows d (suc n) w (under_of l)) (run_change d n w (or_new n p l)) u
      → Weighs (covered d e && elim l [ nowhere ↦ false | here b ↦ elements_found_rows d (suc n) w b.under ])
      (found_change (run_change d n w) false n p l) (carried u (is_located l) true (covered d e) new)
  unfolding carried
  list_carry u (here b) e new W = go (covered d e)
    where
      go : (t : Bool) → Weighs (t && elements_found_rows d (suc n) w b.under) (run_change d n w b) (cond t u (unled u))
      go true = W
      go false = record { found_is = refl; counted = W.counted }
  list_carry u nowhere e new W = record {
    found_is = sym (and_false (covered d e));
    counted = record { places = refl; marks = refl; values = refl; gone_marks = refl; gone-values = refl };
  }

-- few
pub carried_places : (u : Forecast) (there list covers new : Bool)
    → (weight_of (carried u there list covers new)).places ≤ (weight_of u).places + 1
unfolding carried
carried_places u true true true new = omega arith
carried_places u true true false new = omega arith
carried_places u true false covers new = omega arith
carried_places u false true covers new = omega arith
carried_places (Ok u) false false covers true = omega arith
carried_places (Ok u) false false covers false = omega arith
carried_places (Err u) false false covers true = omega arith
carried_places (Err u) false false covers false = omega arith

pub carried_marks : (u : Forecast) (there list covers new : Bool)
    → (weight_of (carried u there list covers new)).marks ≤ (weight_of u).marks
unfolding carried
carried_marks u true true true new = omega arith
carried_marks u true true false new = omega arith
carried_marks u true false covers new = omega arith
carried_marks u false true covers new = omega arith
carried_marks (Ok u) false false covers true = omega arith
carried_marks (Ok u) false false covers false = omega arith
carried_marks (Err u) false false covers true = omega arith
carried_marks (Err u) false false covers false = omega arith

-- The mark on the way.

mark_more : (u : Weight) (deed : Deed) → (with_mark deed u).marks ≤ u.marks + 1
mark_more u (D.Assign g) = omega arith
mark_more u (D.Insert g) = omega arith
mark_more u D.Delete = omega arith

pub marked_marks : (u : Forecast) (deed : Deed) → (weight_of (marked u deed)).marks ≤ (weight_of u).marks + 1
unfolding marked
marked_marks (Ok u) deed = mark_more u deed
marked_marks (Err u) deed = mark_more u deed

pub marked_places : (u : Forecast) (deed : Deed) → (weight_of (marked u deed)).places ≡ (weight_of u).places
unfolding marked
marked_places (Ok u) deed = refl
marked_places (Err u) deed = refl

way_deletes : (w : Way) → is_delete (deed_of w) ≡ deletes w
unfolding deed_of deletes
way_deletes (assign a) = refl
way_deletes delete = refl
way_deletes (insert p a) = refl
way_deletes (into_map k w) = way_deletes w
way_deletes (into_list e w) = way_deletes w

mark_counts : (d : List ℕ) (n : ℕ) (w : Way) (b : Block) (u : Weight) (deed : Deed) → GoesOn w → Alike deed (deed_of w)
    → Counted (under_change d (suc n) w b.under) u → Counted (run_change d n w b) (with_mark deed u)
mark_counts d n w b u deed g e C =
    subst (λ c. Counted c (with_mark deed u)) (sym (run-change d n w b g))
    (go (is_delete deed) (e.deletes ∙ way_deletes w))
  where
    go : (t : Bool) → t ≡ deletes w
        → Counted (both (passing_change w) (under_change d (suc n) w b.under)) (record {
          places = u.places;
          marks = cond t u.marks (u.marks + 1);
          values = u.values;
          gone_marks = u.gone_marks;
          gone_values = u.gone_values;
        })
    go true f =
        rw (sym f) (record {
          places = omega (arith, C.places);
          marks = omega (arith, C.marks);
          values = omega (arith, C.values);
          gone_marks = omega (arith, C.gone_marks);
          gone-values = omega (arith, C.gone-values);
        })
    go false f =
        rw (sym f) (record {
          places = omega (arith, C.places);
          marks = omega (arith, C.marks);
          values = omega (arith, C.values);
          gone_marks = omega (arith, C.gone_marks);
          gone-values = omega (arith, C.gone-values);
        })

pub mark-is : (d : List ℕ) (n : ℕ) (w : Way) (b : Block) (found : Bool) (u : Forecast) (deed : Deed) → GoesOn w → Alike deed (deed_of w)
    → Weighs found (under_change d (suc n) w b.under) u → Weighs found (run_change d n w b) (marked u deed)
unfolding marked
mark-is d n w b found (Ok u) deed g e W = record { found_is = W.found_is; counted = mark_counts d n w b u deed g e W.counted }
mark-is d n w b found (Err u) deed g e W = record { found_is = W.found_is; counted = mark_counts d n w b u deed g e W.counted }
