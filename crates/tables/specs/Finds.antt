-- A search through the words of rows stops where the search among the rows stops: `finds`. And the searches of document 01's
-- operation.
-- Assumes nothing.
use Rattle.std.specs.Prelude.{ℕ, ◌+◌, ◌<◌, ◌≡◌, Bool, true, false, cond, not, ◌&&◌, ◌||◌, ltb, length, drop}
use Rattle.std.proofs.Common.{arith, ◌∙◌}
use Rattle.std.proofs.Math.Path.{refl, sym, ap}
use mathlib.Core.List.{List, [], ◌∷◌, ◌++◌}
use Rattle.std.proofs.Math.Dec.{eqb}
use Rattle.std.specs.Ordering.{is_gt, is_eq}
use Rattle.meaning.specs.Places.{Turn, before, equal, beyond, order}
use Rattle.meaning.specs.Valid.{ValidKey}
use Rattle.meaning.specs.Sheet.{Spot, in_map, in_list, Row}
use Rattle.rows.specs.Blocks.{passed, over, at, key_below, is_key, is_id, is_greater, in_a_map}
use Rattle.readers.specs.Words.{pack}
use Rattle.readers.specs.Order.{words_order}
use Rattle.tables.specs.Words.{bit, side, hangs, head_word, depth_in, side_in, marks_at, values_at, spot_words, heads_of, keys_of}
use Rattle.tables.specs.Heads.{side_of, head_in, key_in}
use Rattle.tables.specs.Seek.{ordering_of, passes_one, goes_over, is_sought, meant, further, seek_words}
use Rattle.tables.specs.declared.Position.{Position}
use Rattle.readers.specs.declared.Key.{Key}
use Rattle.tables.specs.declared.Aim.TheVariants as A
use Rattle.tables.specs.declared.Search.{Search}

-- a row that its words can hold
abbrev pub GoodSpot : Spot → Type 0
GoodSpot (in_map k) = ValidKey k
GoodSpot (in_list i) = Unit {0}

pub record Narrow (r : Row) : Type 0 where
  pub spot : GoodSpot r.spot
  pub depth : r.depth < 16
  pub marks : length r.marks < 2048
  pub values : length r.values < 512

unfoldable pub AllNarrow : List Row → Type 0
AllNarrow [] = Unit {0}
AllNarrow (r ∷ rs) = Narrow r × AllNarrow rs

-- What a row's head says.

pub bit_small : (b : Bool) → bit b < 2
bit_small true = omega arith
bit_small false = omega arith

pub side_small : (p : Spot) → side p < 2
side_small (in_map k) = omega arith
side_small (in_list i) = omega arith

side_hangs : (p : Spot) → side_of (side p) ≡ hangs p
side_hangs (in_map k) = refl
side_hangs (in_list i) = refl

module _ (r : Row) (h : Narrow r) where
  pub depth_in_lem : depth_in (head_word r) ≡ r.depth
  depth_in_lem = omega (arith, h.depth)

  pub side_in_lem : side_in (head_word r) ≡ side r.spot
  side_in_lem = omega (arith, h.depth, side_small r.spot)

  pub hangs_in_lem : side_of (side_in (head_word r)) ≡ hangs r.spot
  hangs_in_lem = rw side_in_lem (side_hangs r.spot)

  pub marks_in_lem : marks_at (head_word r) ≡ length r.marks
  marks_in_lem = omega (arith, h.depth, h.marks, side_small r.spot, bit_small r.map, bit_small r.list)

  pub values_in_lem : values_at (head_word r) ≡ length r.values
  values_in_lem = omega (arith, h.depth, h.marks, h.values, side_small r.spot, bit_small r.map, bit_small r.list)

-- one row on, as its head says, and the place behind some rows that begin at s
abbrev pub next_row : Position → Row → Position
next_row s r = record { row = s.row + 1; mark = s.mark + length r.marks; value = s.value + length r.values }

pub further_same : (r : Row) → Narrow r → (s : Position) → further s (head_word r) ≡ next_row s r
further_same r h s = rw (marks_in_lem r h, values_in_lem r h)

unfoldable pub after : Position → List Row → Position
after s [] = s
after s (r ∷ rs) = after (next_row s r) rs

-- the words of the row at the start
pub key_here : (p : Spot) (ks qs : List ℕ) → key_in ((spot_words p ++ ks) ++ qs) ≡ key_in (spot_words p)
key_here (in_map k) ks qs = refl
key_here (in_list i) ks qs = refl

keys_on : (p : Spot) (ks qs : List ℕ) → drop 3 ((spot_words p ++ ks) ++ qs) ≡ ks ++ qs
keys_on (in_map k) ks qs = refl
keys_on (in_list i) ks qs = refl

-- the search w goes over, of the rows of its depth, those whose spot passes
abbrev pub Agrees : Search → (Spot → Bool) → Type 0
Agrees w pass = (p : Spot) → GoodSpot p → passes_one w (hangs p) (key_in (spot_words p)) ≡ pass p

both : (b c e : Bool) → cond b true (cond c e false) ≡ b || (c && e)
both true c e = refl
both false true e = refl
both false false e = refl

module _ (w : Search) (pass : Spot → Bool) (agrees : Agrees w pass) where
  over_same : (r : Row) → Narrow r → (ks qs : List ℕ)
      → goes_over w (head_in (head_word r)) (key_in ((spot_words r.spot ++ ks) ++ qs)) ≡ over w.depth pass r
  unfolding goes_over
  over_same r h ks qs =
      rw (depth_in_lem r h, hangs_in_lem r h, key_here r.spot ks qs, agrees r.spot h.spot)
      (both (ltb w.depth r.depth) (eqb r.depth w.depth) (pass r.spot))

  pub finds : (rs : List Row) → AllNarrow rs → (qs : List ℕ) (s : Position)
      → seek_words w (heads_of rs) (keys_of rs ++ qs) s ≡ after s (passed (over w.depth pass) rs)
  unfolding seek_words heads_of keys_of after passed AllNarrow
  finds [] h qs s = refl
  finds (r ∷ rs) h qs s = go (over w.depth pass r) refl (finds rs h.1 qs)
    where
      there : over w.depth pass r ≡ goes_over w (head_in (head_word r)) (key_in (keys_of (r ∷ rs) ++ qs))
      there = sym (over_same r h.0 (keys_of rs) qs)

      go : (b : Bool) → over w.depth pass r ≡ b
          → ((s : Position) → seek_words w (heads_of rs) (keys_of rs ++ qs) s ≡ after s (passed (over w.depth pass) rs))
          → seek_words w (heads_of (r ∷ rs)) (keys_of (r ∷ rs) ++ qs) s ≡ after s (passed (over w.depth pass) (r ∷ rs))
      go true e rec =
          rw (sym there ∙ e, e, seek_words, passed)
          (ap (λ l. seek_words w (heads_of rs) l (further s (head_word r))) (keys_on r.spot (keys_of rs) qs)
          ∙ (ap (seek_words w (heads_of rs) (keys_of rs ++ qs)) (further_same r h.0 s) ∙ rec _))
      go false e rec = rw (sym there ∙ e, e, seek_words, passed)

-- The searches of an operation: a key, an element, the seat of a new element behind its predecessor or behind the head, the end of a block.

-- the key of an element
abbrev pub element_key : ℕ → Key
element_key e = record { hi = e; lo = 0; len = 17 }

abbrev pub want_key : ℕ → List ℕ → Search
want_key n k = record { aim = A.Key; depth = n; key = record { hi = pack 8 k; lo = pack 8 (drop 8 k); len = length k } }

abbrev pub want_element : ℕ → ℕ → Search
want_element n e = record { aim = A.Element; depth = n; key = element_key e }

abbrev pub want_seat : ℕ → ℕ → Search
want_seat n i = record { aim = A.Seat; depth = n; key = element_key i }

abbrev pub want_head : ℕ → ℕ → Search
want_head n i = record { aim = A.FirstSeat; depth = n; key = element_key i }

abbrev pub want_end : ℕ → Search
want_end n = record { aim = A.End; depth = n; key = record { hi = 0; lo = 0; len = 0 } }

two : (t : Turn) → is_gt (ordering_of t) ≡ elim t [ before ↦ false | equal ↦ false | beyond ↦ true ]
two before = refl
two equal = refl
two beyond = refl

one : (t : Turn) → is_eq (ordering_of t) ≡ elim t [ before ↦ false | equal ↦ true | beyond ↦ false ]
one before = refl
one equal = refl
one beyond = refl

module _ (n : ℕ) where
  pub key_agrees : (k : List ℕ) → ValidKey k → Agrees (want_key n k) (key_below k)
  unfolding passes_one
  key_agrees k v (in_map j) h = ap (λ t. is_gt (ordering_of t)) (words_order k j v h) ∙ two (order k j)
  key_agrees k v (in_list i) h = refl

  pub element_agrees : (e : ℕ) → Agrees (want_element n e) (λ p. not (is_id e p))
  unfolding passes_one
  element_agrees e (in_map j) h = refl
  element_agrees e (in_list i) h = refl

  pub seat_agrees : (i : ℕ) → Agrees (want_seat n i) (is_greater i)
  unfolding passes_one
  seat_agrees i (in_map j) h = refl
  seat_agrees i (in_list e) h = refl

  pub head_agrees : (i : ℕ) → Agrees (want_head n i) (λ p. in_a_map p || is_greater i p)
  unfolding passes_one
  head_agrees i (in_map j) h = refl
  head_agrees i (in_list e) h = refl

  pub end_agrees : Agrees (want_end n) (λ p. false)
  unfolding passes_one
  end_agrees p h = refl

-- Whether the row where the search stopped is the one that was looked for.
abbrev pub Tells : Search → (Spot → Bool) → Type 0
Tells w meant = (r : Row) → Narrow r → is_sought w (head_in (head_word r)) (key_in (spot_words r.spot)) ≡ at w.depth meant r

narrowed : (c b : Bool) → cond c b false ≡ c && b
narrowed true b = refl
narrowed false b = refl

pub key_tells : (n : ℕ) (k : List ℕ) → ValidKey k → Tells (want_key n k) (is_key k)
unfolding is_sought
key_tells n k v r h = rw (depth_in_lem r h, hangs_in_lem r h) (go r.spot h.spot)
  where
    go : (p : Spot) → GoodSpot p
        → cond (eqb r.depth n) (meant A.Key (hangs p) (want_key n k).key (key_in (spot_words p))) false
        ≡ eqb r.depth n && is_key k p
    go (in_map j) g =
        narrowed (eqb r.depth n) _ ∙ ap (eqb r.depth n &&◌) (ap (λ t. is_eq (ordering_of t)) (words_order k j v g) ∙ one (order k j))
    go (in_list i) g = narrowed (eqb r.depth n) false

pub element_tells : (n e : ℕ) → Tells (want_element n e) (is_id e)
unfolding is_sought
element_tells n e r h = rw (depth_in_lem r h, hangs_in_lem r h) (go r.spot)
  where
    go : (p : Spot) → cond (eqb r.depth n) (meant A.Element (hangs p) (element_key e) (key_in (spot_words p))) false
        ≡ eqb r.depth n && is_id e p
    go (in_map j) = narrowed (eqb r.depth n) false
    go (in_list i) = narrowed (eqb r.depth n) (eqb e i)
