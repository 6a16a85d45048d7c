-- Words at the start of others: how many there are in all, and how to take them out again.
-- Assumes nothing.
use Prim.Native.Nat.{ℕ, zero, suc, ◌≤◌}
use native.Mathlib.Omega.{arith}
use mathlib.Core.Path.{◌≡◌, refl, ap}
use mathlib.Core.List.{List, [], ◌∷◌}
use lib.ListN.{length, take}
use Rattle.message.specs.Means.{pad}

pub pad_long : (n : ℕ) (w : List ℕ) → length (pad n w) ≡ n
unfolding pad
pad_long zero w = refl
pad_long (suc n) [] = ap suc (pad_long n [])
pad_long (suc n) (x ∷ w) = ap suc (pad_long n w)

pub take-pad : (n : ℕ) (w : List ℕ) → length w ≤ n → take (length w) (pad n w) ≡ w
unfolding pad
take-pad n [] h = refl
take-pad zero (x ∷ w) h = absurd (omega arith)
take-pad (suc n) (x ∷ w) h = ap (x ∷◌) (take-pad n w (omega arith))
