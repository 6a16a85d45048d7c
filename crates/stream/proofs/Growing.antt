-- A text that goes on: where its first message ends, if more bytes follow.
-- Assumes nothing.
use Prim.Native.Nat.{ℕ, zero, suc, ◌+◌, ◌≤◌, ◌<◌}
use native.Mathlib.Nat.{zero-add, suc-add}
use native.Mathlib.Omega.{arith}
use mathlib.Core.Path.{◌≡◌, refl, sym, ap, ◌∙◌}
use mathlib.Core.Bool.{Bool, true, false, cond, ◌&&◌}
use mathlib.Core.List.{List, [], ◌∷◌, ◌++◌}
use lib.Dec.{eqb}
use lib.ListN.{length, drop}
use Rattle.meaning.specs.Ascii.{ascii, byte}
use Rattle.stream.specs.Ends.{starts_with, opens, first}

-- an `op=1` line is seen once its five bytes are there
starts_on : (p x t : List ℕ) → length p ≤ length x → starts_with p (x ++ t) ≡ starts_with p x
unfolding starts_with
starts_on [] x t h = refl
starts_on (y ∷ p) [] t h = absurd (omega arith)
starts_on (y ∷ p) (z ∷ x) t h = ap (λ c. eqb z y && c) (starts_on p x t (omega arith))

starts_long : (p x : List ℕ) → starts_with p x ≡ true → length p ≤ length x
unfolding starts_with
starts_long [] x e = omega arith
starts_long (y ∷ p) [] e = absurd (let z : ◌≡◌ {A = ℕ} 0 1 = cc in omega arith)
starts_long (y ∷ p) (z ∷ x) e = go (eqb z y) e (starts_long p x)
  where
    go : (c : Bool) → (c && starts_with p x) ≡ true → (starts_with p x ≡ true → length p ≤ length x) → suc (length p) ≤ suc (length x)
    go true f g = omega (arith, g f)
    go false f g = absurd (let z : ◌≡◌ {A = ℕ} 0 1 = cc in omega arith)

-- whether a message ends behind the byte b, ahead of t
abbrev ends : ℕ → List ℕ → Bool
ends b t = eqb b (byte "\n") && opens t

ends_long : (b : ℕ) (t : List ℕ) → ends b t ≡ true → 5 ≤ length t
ends_long b t e = go (eqb b (byte "\n")) e
  where
    go : (c : Bool) → (c && opens t) ≡ true → 5 ≤ length t
    go true f = starts_long (ascii "op=1\n") t f
    go false f = absurd (let z : ◌≡◌ {A = ℕ} 0 1 = cc in omega arith)

ends_on : (b : ℕ) (x t : List ℕ) → 5 ≤ length x → ends b (x ++ t) ≡ ends b x
ends_on b x t h = ap (λ c. eqb b (byte "\n") && c) (starts_on (ascii "op=1\n") x t h)

-- a message that ends within a text has five bytes behind it
inside : (x : List ℕ) → first x < length x → first x + 5 ≤ length x
unfolding first
inside [] h = absurd (omega arith)
inside (b ∷ x) h = go (ends b x) refl h (inside x)
  where
    go : (c : Bool) → ends b x ≡ c → cond c 1 (suc (first x)) < suc (length x) → (first x < length x → first x + 5 ≤ length x)
        → cond c 1 (suc (first x)) + 5 ≤ suc (length x)
    go true e h g = omega (arith, ends_long b x e)
    go false e h g = omega (arith, g (omega arith))

-- one that ends within a text ends there, whatever follows
pub first_stays : (x t : List ℕ) → first x < length x → first (x ++ t) ≡ first x
unfolding first
first_stays [] t h = absurd (omega arith)
first_stays (b ∷ x) t h = go (ends b x) refl h (first_stays x t)
  where
    go : (c : Bool) → ends b x ≡ c → cond c 1 (suc (first x)) < suc (length x) → (first x < length x → first (x ++ t) ≡ first x)
        → cond (ends b (x ++ t)) 1 (suc (first (x ++ t))) ≡ cond c 1 (suc (first x))
    go true e h g = rw (ends_on b x t (ends_long b x e), e)
    go false e h g =
        let l : first x < length x = omega arith in
        let m : 1 ≤ length x = omega arith in
        rw (ends_on b x t (omega (arith, inside x l)), e) (ap suc (g l))

-- one that doesn't end within a text goes on through all of it but the last five bytes
pub first_goes_on : (d : ℕ) (x t : List ℕ) → first x ≡ length x → d + 5 ≤ length x → first (x ++ t) ≡ d + first (drop d (x ++ t))
unfolding first
first_goes_on zero x t e h = sym (zero-add (first (x ++ t)))
first_goes_on (suc d) [] t e h = absurd (omega arith)
first_goes_on (suc d) (b ∷ x) t e h = go (ends b x) refl e (first_goes_on d x t)
  where
    go : (c : Bool) → ends b x ≡ c → cond c 1 (suc (first x)) ≡ suc (length x)
        → (first x ≡ length x → d + 5 ≤ length x → first (x ++ t) ≡ d + first (drop d (x ++ t)))
        → cond (ends b (x ++ t)) 1 (suc (first (x ++ t))) ≡ suc d + first (drop d (x ++ t))
    go true p q g = absurd (omega (arith, ends_long b x p))
    go false p q g = rw (ends_on b x t (omega arith), p)
        (ap suc (g (omega arith) (omega arith)) ∙ sym (suc-add d (first (drop d (x ++ t)))))
