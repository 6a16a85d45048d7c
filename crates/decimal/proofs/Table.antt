-- The rule of the table of powers, and how many digits a number has by it.
-- Assumes nothing.
use Prim.Native.Nat.{ℕ, zero, suc, ◌+◌, ◌-◌, ◌^◌, ◌≤◌, ◌<◌}
use native.Mathlib.Omega.{arith}
use native.Mathlib.Nat.{pow-le-pow_right, zero-add, add-suc, suc-add, add-zero}
use mathlib.Core.Path.{◌≡◌, sym, ap, ◌∙◌, subst}
use mathlib.Core.List.{List}
use lib.ListN.{length, get_or}
use Rattle.meaning.specs.Text.{width, decimal}
use Rattle.theorems.specs.Decide.{Tri, less, same, more, tri}
use Rattle.theorems.specs.Decimal.{width_sized, length-decimal, decimal-short}
use Rattle.decimal.specs.Powers.{powers_from, powers_of_ten}

entries : (n k i : ℕ) → i < n → get_or (powers_from n k) i 0 ≡ 10 ^ (k + i)
unfolding powers_from
entries zero k i h = absurd (omega arith)
entries (suc n) k zero h = ap (λ m. 10 ^ m) (sym (add-zero k))
entries (suc n) k (suc i) h = entries n (suc k) i (omega arith) ∙ ap (λ m. 10 ^ m) (suc-add k i ∙ sym (add-suc k i))

-- entry k is 10 ^ k, in any list that is the table
pub power : (t : List ℕ) (k : ℕ) → t ≡ powers_of_ten → k < 20 → get_or t k 0 ≡ 10 ^ k
unfolding powers_of_ten
power t k e h = ap (λ l. get_or l k 0) e ∙ (entries 20 0 k h ∙ ap (λ m. 10 ^ m) (zero-add k))

-- no power passed so far is above v
pub passed : (v n : ℕ) → 10 ^ n ≤ v → 1 < n + 1 → 10 ^ (n + 1 - 1) ≤ v
passed v n h l = let e : n ≡ n + 1 - 1 = omega arith in subst (λ (i : ℕ). 10 ^ i ≤ v) e h

-- n digits are those of v if v is below 10 ^ n, and not below 10 ^ (n - 1) unless n is 1
pub width_is : (n v : ℕ) → 1 ≤ n → v < 10 ^ n → (1 < n → 10 ^ (n - 1) ≤ v) → width v ≡ n
width_is n v a h g = go (tri (width v) n)
  where
    go : Tri (width v) n → width v ≡ n
    go (same p) = p
    go (more p) = absurd (omega (arith, (width_sized v).tight n a p))
    go (less p) =
        let s = width_sized v in
        let q : 10 ^ width v ≤ 10 ^ (n - 1) = pow-le-pow_right {n = 10} (omega arith) {i = width v} {j = n - 1} (omega arith) in
        absurd (omega (arith, s.fits, s.above, g (omega (arith, s.above))))

pub size_is : (n v : ℕ) → 1 ≤ n → v < 10 ^ n → (1 < n → 10 ^ (n - 1) ≤ v) → n ≡ length (decimal v)
size_is n v a h g = sym (length-decimal v ∙ width_is n v a h g)

-- a number that has the width n is not below 10 ^ (n - 1)
pub width_low : (n v : ℕ) → width v ≡ n → 1 < n → 10 ^ (n - 1) ≤ v
width_low n v e h = (width_sized v).tight (n - 1) (omega arith) (omega arith)

pub width_some : (v : ℕ) → 1 ≤ width v
width_some v = (width_sized v).above

pub width_most : (v : ℕ) → v < 10 ^ 20 → width v ≤ 20
width_most v h = omega (arith, length-decimal v, decimal-short 20 v (omega arith) h)
