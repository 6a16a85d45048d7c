-- The words of a whole way, in the 24 words that an operation has for them.
-- Assumes nothing.
use Prim.Native.Nat.{ℕ, zero, suc, ◌+◌, ◌*◌, ◌-◌, ◌≤◌, ◌<◌}
use native.Mathlib.Omega.{arith}
use mathlib.Core.Path.{◌≡◌, refl, sym, ap, ap₂, ◌∙◌}
use mathlib.Core.Bool.{Bool, true, false, cond, not}
use mathlib.Core.List.{List, [], ◌∷◌}
use borrow.Author.Tests.{eq-eqb, ne_eqb, lt-ltb, le-ltb}
use lib.Dec.{ltb, eqb}
use lib.ListN.{length, get_or}
use lib.Seq.{get_or-append-add}
use Rattle.meaning.specs.Judge.{upward}
use Rattle.meaning.specs.Ways.{head, after, Way, assign, delete, insert, into_map, into_list, steps}
use Rattle.rows.specs.Within.{GoesOn}
use Rattle.message.specs.Means.{prev_words, way_words, deed_of, pad}
use Rattle.message.specs.declared.Deed.{Deed}
use Rattle.deeds.specs.Deeds.{is_insert}
use Rattle.judging.specs.Judging.{goes_down}

get_pad : (n : ℕ) (w : List ℕ) (j : ℕ) → length w ≤ n → get_or (pad n w) j 0 ≡ get_or w j 0
unfolding pad
get_pad zero [] j h = refl
get_pad zero (x ∷ w) j h = absurd (omega arith)
get_pad (suc n) [] zero h = refl
get_pad (suc n) [] (suc j) h = get_pad n [] j (omega arith)
get_pad (suc n) (x ∷ w) zero h = refl
get_pad (suc n) (x ∷ w) (suc j) h = get_pad n w j (omega arith)

pub words_count : (w : Way) → length (way_words w) ≡ 3 * steps w
unfolding way_words prev_words steps
words_count (assign a) = refl
words_count delete = refl
words_count (insert head a) = refl
words_count (insert (after e) a) = refl
words_count (into_map k w) = omega (arith, words_count w)
words_count (into_list e w) = omega (arith, words_count w)

-- The last key.

some_steps : (w : Way) → GoesOn w → 1 ≤ steps w
unfolding steps
some_steps (assign a) g = absurd g
some_steps delete g = absurd g
some_steps (insert p a) g = omega arith
some_steps (into_map k w) g = omega arith
some_steps (into_list e w) g = omega arith

-- whether the way's last key goes down
unfoldable pub last_down : Deed → ℕ → ℕ → List ℕ → Bool
last_down deed i n ws = goes_down deed i (get_or ws (3 * n - 3) 0) (get_or ws (3 * n - 1) 0)

last-is : (deed : Deed) (i n : ℕ) (ws : List ℕ) → last_down deed i n ws ≡ goes_down deed i (get_or ws (3 * n - 3) 0) (get_or ws (3 * n - 1) 0)
unfolding last_down
last-is deed i n ws = refl

-- it is the last of the rest
last_on : (deed : Deed) (i n : ℕ) (a b c : ℕ) (ws : List ℕ) → 1 ≤ n → last_down deed i (suc n) (a ∷ b ∷ c ∷ ws) ≡ last_down deed i n ws
unfolding last_down
last_on deed i n a b c ws h =
    let e : 3 * suc n - 3 ≡ length (a ∷ b ∷ c ∷ []) + (3 * n - 3) = omega arith in
    let f : 3 * suc n - 1 ≡ length (a ∷ b ∷ c ∷ []) + (3 * n - 1) = omega arith in
    ap₂ (goes_down deed i)
    (ap (λ j. get_or (a ∷ b ∷ c ∷ ws) j 0) e ∙ get_or-append-add (a ∷ b ∷ c ∷ []) ws (3 * n - 3) 0)
    (ap (λ j. get_or (a ∷ b ∷ c ∷ ws) j 0) f ∙ get_or-append-add (a ∷ b ∷ c ∷ []) ws (3 * n - 1) 0)

-- where nothing is inserted nothing goes down
not_insert : (deed : Deed) (i hi len : ℕ) → is_insert deed ≡ false → goes_down deed i hi len ≡ false
unfolding goes_down
not_insert deed i hi len e = rw e (go (eqb len 17) (ltb hi i))
  where
    go : (a b : Bool) → cond a (cond b false false) false ≡ false
    go true true = refl
    go true false = refl
    go false b = refl

down_after : (b : Bool) → cond b false true ≡ not b
down_after true = refl
down_after false = refl

pub down_way : (i : ℕ) (w : Way) → GoesOn w → last_down (deed_of w) i (steps w) (way_words w) ≡ not (upward i w)
unfolding way_words prev_words deed_of steps upward
down_way i (assign a) g = absurd g
down_way i delete g = absurd g
down_way i (insert head a) g = unfold last_down goes_down in refl
down_way i (insert (after e) a) g = unfold last_down goes_down in (down_after (ltb e i))
down_way i (into_map k (assign a)) g = unfold last_down in (not_insert (deed_of (assign a)) i _ _ refl)
down_way i (into_map k delete) g = unfold last_down in (not_insert (deed_of delete) i _ _ refl)
down_way i (into_map k (insert p a)) g = last_on _ i _ _ _ _ _ (omega arith) ∙ down_way i (insert p a) tt
down_way i (into_map k (into_map j w)) g = last_on _ i _ _ _ _ _ (omega arith) ∙ down_way i (into_map j w) tt
down_way i (into_map k (into_list e w)) g = last_on _ i _ _ _ _ _ (omega arith) ∙ down_way i (into_list e w) tt
down_way i (into_list e (assign a)) g = unfold last_down in (not_insert (deed_of (assign a)) i _ _ refl)
down_way i (into_list e delete) g = unfold last_down in (not_insert (deed_of delete) i _ _ refl)
down_way i (into_list e (insert p a)) g = last_on _ i _ _ _ _ _ (omega arith) ∙ down_way i (insert p a) tt
down_way i (into_list e (into_map j w)) g = last_on _ i _ _ _ _ _ (omega arith) ∙ down_way i (into_map j w) tt
down_way i (into_list e (into_list j w)) g = last_on _ i _ _ _ _ _ (omega arith) ∙ down_way i (into_list j w) tt

-- the same of the 24 words
pub down_pad : (i : ℕ) (w : Way) → GoesOn w → steps w ≤ 8
    → goes_down (deed_of w) i (get_or (pad 24 (way_words w)) (3 * steps w - 3) 0) (get_or (pad 24 (way_words w)) (3 * steps w - 1) 0)
    ≡ not (upward i w)
down_pad i w g h =
    let l : length (way_words w) ≤ 24 = omega (arith, words_count w) in
    ap₂ (goes_down (deed_of w) i) (get_pad 24 (way_words w) (3 * steps w - 3) l) (get_pad 24 (way_words w) (3 * steps w - 1) l)
    ∙ (sym (last-is (deed_of w) i (steps w) (way_words w)) ∙ down_way i w g)

-- the tests, one after another
module _ (deed : Deed) (i hi len : ℕ) where
  -- the last key names no element
  pub down_other : (len ≡ 17 → ⊥) → false ≡ goes_down deed i hi len
  unfolding goes_down
  down_other n = rw (ne_eqb len 17 n)

  -- it names a smaller one
  pub down_smaller : len ≡ 17 → hi < i → false ≡ goes_down deed i hi len
  unfolding goes_down
  down_smaller e h = rw (eq-eqb len 17 e, lt-ltb hi i h)

  -- where it names no smaller one, the deed decides
  pub down_insert : len ≡ 17 → i ≤ hi → is_insert deed ≡ goes_down deed i hi len
  unfolding goes_down
  down_insert e h = rw (eq-eqb len 17 e, le-ltb hi i h)
