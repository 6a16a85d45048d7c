-- Laws of decimal digits: one digit more at the end, and reading a run of digits back.
-- Assumes nothing.
use Prim.Native.Nat.{ℕ, zero, suc, ◌+◌, ◌-◌, ◌*◌, ◌/◌, ◌%◌, ◌^◌, ◌≤◌, ◌<◌}
use native.Mathlib.Omega.{arith}
use native.Mathlib.Nat.{pow-succ', mod-eq_of_lt, mod-lt, div-div-eq-div-mul}
use mathlib.Core.Path.{◌≡◌, refl, sym, ap, ◌∙◌}
use mathlib.Core.Bool.{Bool, true, false}
use mathlib.Core.List.{List, [], ◌∷◌, ◌++◌}
use lib.Arith.{mod-mul}
use lib.ListN.{length, drop}
use lib.Seq.{drop-append_seam}
use Rattle.meaning.specs.Ascii.{byte}
use Rattle.meaning.specs.Text.{digits, width, decimal}
use Rattle.theorems.specs.Decimal.{pow_pos, width_sized, is_digit, digit_yes}
use Rattle.decimal.specs.Numbers.{NoDigit}

-- a text in front is cancelled
pub cancel : (p t u : List ℕ) → p ++ t ≡ p ++ u → t ≡ u
cancel p t u e = sym (drop-append_seam p t) ∙ (ap (λ l. drop (length p) l) e ∙ drop-append_seam p u)

-- the last digit, behind the others
pub digits_last : (k x : ℕ) → digits (suc k) x ≡ digits k (x / 10) ++ ((byte "0" + x % 10) ∷ [])
unfolding digits
digits_last zero x = let e : x / 10 ^ 0 % 10 ≡ x % 10 = omega arith in ap (λ d. (byte "0" + d) ∷ []) e
digits_last (suc k) x =
    let e : x / 10 ^ suc k ≡ x / 10 / 10 ^ k = ap (λ p. x / p) (pow-succ' 10 k) ∙ sym (div-div-eq-div-mul x 10 (10 ^ k)) in
    let r = digits_last k x in
    ap (λ q. (byte "0" + q % 10) ∷ digits (suc k) x) e ∙ ap (λ l. (byte "0" + x / 10 / 10 ^ k % 10) ∷ l) r

-- The digits at the start of a text, read on top of a number with k digits: the number that they give, and how many digits it has.
pub scan : ℕ → ℕ → List ℕ → ℕ × ℕ
scan a k [] = (a, k)
scan a k (c ∷ t) = elim (is_digit c) [ true ↦ scan (a * 10 + (c - byte "0")) (suc k) t | false ↦ (a, k) ]

pub scan_stop : (a k : ℕ) (t : List ℕ) → NoDigit t → scan a k t ≡ (a, k)
unfolding scan
scan_stop a k [] h = refl
scan_stop a k (c ∷ t) h = rw (h, scan)

scan_digit : (a k n : ℕ) (t : List ℕ) → n < 10 → scan a k ((byte "0" + n) ∷ t) ≡ scan (a * 10 + n) (suc k) t
unfolding scan
scan_digit a k n t h =
    let z : a * 10 + (byte "0" + n - byte "0") ≡ a * 10 + n = omega arith in
    rw (digit_yes n h, scan) (ap (λ b. scan b (suc k) t) z)

scan-digits : (k a j x : ℕ) (t : List ℕ) → scan a j (digits k x ++ t) ≡ scan (a * 10 ^ k + x % 10 ^ k) (j + k) t
unfolding digits
scan-digits zero a j x t =
    let e : a ≡ a * 10 ^ 0 + x % 10 ^ 0 = omega arith in
    let f : j ≡ j + 0 = omega arith in
    ap (λ b. scan b j t) e ∙ ap (λ i. scan (a * 10 ^ 0 + x % 10 ^ 0) i t) f
scan-digits (suc k) a j x t =
    let q = x / 10 ^ k % 10 in
    let e : x % 10 ^ suc k ≡ q * 10 ^ k + x % 10 ^ k = rw (pow-succ' 10 k) (mod-mul x {m = 10} {c = 10 ^ k} (omega arith) (pow_pos k)) in
    let z : (a * 10 + q) * 10 ^ k + x % 10 ^ k ≡ a * 10 ^ suc k + x % 10 ^ suc k = rw (e, pow-succ' 10 k) (omega arith) in
    let f : suc j + k ≡ j + suc k = omega arith in
    scan_digit a j q (digits k x ++ t) (mod-lt (x / 10 ^ k) {m = 10} (omega arith))
    ∙ (scan-digits k (a * 10 + q) (suc j) x t
    ∙ (ap (λ b. scan b (suc j + k) t) z ∙ ap (λ i. scan (a * 10 ^ suc k + x % 10 ^ suc k) i t) f))

-- a run of n digits gives its number
pub scan-run : (n v : ℕ) (t : List ℕ) → v < 10 ^ n → scan 0 0 (digits n v ++ t) ≡ scan v n t
scan-run n v t h =
    let e : 0 * 10 ^ n + v % 10 ^ n ≡ v = omega (arith, mod-eq_of_lt h) in
    let f : 0 + n ≡ n = omega arith in
    scan-digits n 0 0 v t ∙ (ap (λ b. scan b (0 + n) t) e ∙ ap (λ i. scan v i t) f)

-- further digits make no number smaller
pub scan_grows : (a k : ℕ) (t : List ℕ) → a ≤ (scan a k t).0
unfolding scan
scan_grows a k [] = omega arith
scan_grows a k (c ∷ t) = go (is_digit c) (scan_grows (a * 10 + (c - byte "0")) (suc k) t)
  where
    go : (b : Bool) → a * 10 + (c - byte "0") ≤ (scan (a * 10 + (c - byte "0")) (suc k) t).0
        → a ≤ (elim b as (λ x. ℕ × ℕ) [ true ↦ scan (a * 10 + (c - byte "0")) (suc k) t | false ↦ (a, k) ]).0
    go true h = omega arith
    go false h = omega arith

pub scan-decimal : (x : ℕ) (t : List ℕ) → NoDigit t → scan 0 0 (decimal x ++ t) ≡ (x, width x)
unfolding decimal
scan-decimal x t h = scan-run (width x) x t (width_sized x).fits ∙ scan_stop x (width x) t h

-- a decimal and what follows it, in one way
pub decimal_once : (x y : ℕ) (t u : List ℕ) → NoDigit t → NoDigit u → decimal x ++ t ≡ decimal y ++ u → (x ≡ y) × (t ≡ u)
decimal_once x y t u p q e =
    let z : x ≡ y = ap (λ r. r.0) (sym (scan-decimal x t p) ∙ (ap (scan 0 0) e ∙ scan-decimal y u q)) in
    (z, cancel (decimal x) t u (e ∙ ap (λ n. decimal n ++ u) (sym z)))
