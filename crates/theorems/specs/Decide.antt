-- Decisions as data: two numbers compared, two numbers alike; and what Boolean tests say.
-- Assumes nothing.
use Rattle.std.specs.Prelude.{ℕ, ◌<◌, ◌≡◌, refl, Bool, true, false, ◌&&◌, ◌||◌, ◌≢◌, ltb, eqb}
use Rattle.std.proofs.Common.{arith, true≢false, ltb-true, ltb-false, eqb-true}
use Rattle.std.proofs.lemmas.Bool.{false≢true, eqb-false}

pub data Tri (i j : ℕ) : Type 0 where
  less : i < j → Tri i j
  same : i ≡ j → Tri i j
  more : j < i → Tri i j

pub tri : (i j : ℕ) → Tri i j
tri i j = go (ltb i j) refl (ltb j i) refl
  where
    go : (a : Bool) → ltb i j ≡ a → (b : Bool) → ltb j i ≡ b → Tri i j
    go true e b f = less (ltb-true i j e)
    go false e true f = more (ltb-true j i f)
    go false e false f = same (omega (arith, ltb-false i j e, ltb-false j i f))

pub data Same (i j : ℕ) : Type 0 where
  is : i ≡ j → Same i j
  isnt : i ≢ j → Same i j

pub alike : (i j : ℕ) → Same i j
alike i j = go (eqb i j) refl
  where
    go : (a : Bool) → eqb i j ≡ a → Same i j
    go true e = is (eqb-true i j e)
    go false e = isnt (eqb-false i j e)

pub and_left : (a b : Bool) → (a && b) ≡ true → a ≡ true
and_left true b e = refl
and_left false b e = e

pub and_right : (a b : Bool) → (a && b) ≡ true → b ≡ true
and_right true b e = e
and_right false b e = absurd (false≢true e)

pub or_left : (a b : Bool) → (a || b) ≡ false → a ≡ false
or_left true b e = e
or_left false b e = refl

pub or_right : (a b : Bool) → (a || b) ≡ false → b ≡ false
or_right true b e = absurd (true≢false e)
or_right false b e = e

pub or_true : (a b : Bool) → b ≡ true → (a || b) ≡ true
or_true true b e = refl
or_true false b e = e
