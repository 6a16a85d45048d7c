-- The first of the messages that pass a test, and the messages without the one picked.
-- Assumes nothing.
use Rattle.std.specs.Prelude.{ℕ, suc, ◌<◌, ◌≤◌, ◌≡◌, refl, Bool, true, false, not, List, [], ◌∷◌, eqb, length}
use Rattle.std.proofs.Common.{arith, ap, eq-eqb}
use Rattle.meaning.specs.Sets.{keep}
use Rattle.meaning.specs.Ways.{Operation}
use Rattle.meaning.specs.Members.{All}
use Rattle.meaning.specs.Receive.{Pick, nobody, picked, first, without}
use Rattle.theorems.specs.Keep.{keep_nil, keep_yes, keep_no}
use Rattle.theorems.specs.Members.{keep_length}

-- what holds of the one picked, if there is one
abbrev pub Picked : (Operation → Type 0) → Pick → Type 0
Picked Q nobody = Unit {0}
Picked Q (picked o) = Q o

-- what holds of all holds of the first
pub first-all : (Q : Operation → Type 0) (os : List Operation) → All Q os → Picked Q (first os)
unfolding first
first-all Q [] h = tt
first-all Q (o ∷ os) h = h.0

abbrev id_picked : Pick → ℕ
id_picked nobody = 0
id_picked (picked o) = suc o.id

first_none : (o : Operation) → first [] ≡ picked o → ⊥
unfolding first
first_none o e = let z = ap (λ p. id_picked p) e in omega arith

first_some : (o : Operation) (os : List Operation) → first (o ∷ os) ≡ nobody → ⊥
unfolding first
first_some o os e = let z = ap (λ p. id_picked p) e in omega arith

first_id : (x o : Operation) (os : List Operation) → first (x ∷ os) ≡ picked o → o.id ≡ x.id
unfolding first
first_id x o os e = let z = ap (λ p. id_picked p) e in omega arith

-- if it is nobody, nobody passes
pub nobody_passes : (p : Operation → Bool) (xs : List Operation) → first (keep p xs) ≡ nobody → All (λ o. p o ≡ false) xs
nobody_passes p [] e = tt
nobody_passes p (x ∷ xs) e = go (p x) refl (λ e. nobody_passes p xs e)
  where
    go : (b : Bool) → p x ≡ b → (first (keep p xs) ≡ nobody → All (λ o. p o ≡ false) xs) → All (λ o. p o ≡ false) (x ∷ xs)
    go true f h = absurd (first_some x (keep p xs) (rw (keep_yes p x xs f) at e))
    go false f h = (f, h (rw (keep_no p x xs f) at e))

without_same : (i : ℕ) (x : Operation) (xs : List Operation) → i ≡ x.id → length (without i (x ∷ xs)) ≤ length xs
unfolding without
without_same i x xs q = rw (keep_no (λ o. not (eqb i o.id)) x xs (ap not (eq-eqb i x.id q))) (keep_length _ xs)

without_cons : (i : ℕ) (x : Operation) (xs : List Operation) → length (without i (x ∷ xs)) ≤ suc (length (without i xs))
unfolding without
without_cons i x xs = go (not (eqb i x.id)) refl
  where
    p : Operation → Bool
    p o = not (eqb i o.id)

    go : (b : Bool) → p x ≡ b → length (keep p (x ∷ xs)) ≤ suc (length (keep p xs))
    go true e = rw (keep_yes p x xs e) (omega arith)
    go false e = rw (keep_no p x xs e) (omega arith)

-- without the one picked, fewer are left
pub picked_shorter : (p : Operation → Bool) (xs : List Operation) (o : Operation) → first (keep p xs) ≡ picked o
    → length (without o.id xs) < length xs
picked_shorter p [] o e = absurd (first_none o (rw (keep_nil p) at e))
picked_shorter p (x ∷ xs) o e = go (p x) refl (λ e. picked_shorter p xs o e)
  where
    go : (b : Bool) → p x ≡ b → (first (keep p xs) ≡ picked o → length (without o.id xs) < length xs)
        → length (without o.id (x ∷ xs)) < suc (length xs)
    go true f h = omega (arith, without_same o.id x xs (first_id x o (keep p xs) (rw (keep_yes p x xs f) at e)))
    go false f h = omega (arith, without_cons o.id x xs, h (rw (keep_no p x xs f) at e))
