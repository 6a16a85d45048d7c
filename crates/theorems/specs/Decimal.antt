-- Decimal numbers: how long a number's text is, and reading it back.
-- Assumes nothing.
use Rattle.std.specs.Prelude.{ℕ, zero, suc, ◌+◌, ◌-◌, ◌*◌, ◌/◌, ◌%◌, ◌^◌, ◌≤◌, ◌<◌, ◌≡◌, refl, Bool, true, false, ◌&&◌}
use Rattle.std.specs.Prelude.{◌||◌, List, [], ◌∷◌, ◌++◌, leb, length}
use Rattle.std.proofs.Common.{arith, pow-suc, mod-eq_of_lt, mod-lt, eq-or-lt_of_le, add-zero, add-suc, suc-add, sym, ap}
use Rattle.std.proofs.Common.{◌∙◌, subst, ⊎_elim, lt-ltb, le-ltb, le-leb}
use Rattle.std.proofs.Math.Nat.{pow-succ', pow-le-pow_right}
use Rattle.std.proofs.Math.Arith.{mod-mul}
use Rattle.meaning.specs.Ascii.{byte}
use Rattle.meaning.specs.Text.{digits, width_from, width, decimal}
use Rattle.theorems.specs.Decide.{Tri, less, same, more, tri, or_left}

-- The width.

pub pow_pos : (k : ℕ) → 0 < 10 ^ k
pow_pos zero = omega arith
pow_pos (suc k) = omega (arith, pow-suc 10 k, pow_pos k)

pow_above : (k : ℕ) → k < 10 ^ k
pow_above zero = omega arith
pow_above (suc k) = omega (arith, pow-suc 10 k, pow_above k)

width_here : (f k x : ℕ) → x < 10 ^ k → width_from (suc f) k x ≡ k
unfolding width_from
width_here f k x h = rw (lt-ltb x (10 ^ k) h, width_from)

width_on : (f k x : ℕ) → 10 ^ k ≤ x → width_from (suc f) k x ≡ width_from f (suc k) x
unfolding width_from
width_on f k x h = rw (le-ltb x (10 ^ k) h, width_from)

-- n is the least from k on with x < 10 ^ n
pub record Sized (k n x : ℕ) : Type 0 where
  pub above : k ≤ n
  pub fits : x < 10 ^ n
  pub tight : (m : ℕ) → k ≤ m → m < n → 10 ^ m ≤ x

sized : (f k x : ℕ) → x < 10 ^ (k + f) → Sized k (width_from f k x) x
unfolding width_from
sized zero k x h = record { above = omega arith; fits = rw add-zero at h; tight = λ m p q. absurd (omega arith) }
sized (suc f) k x h = go (tri x (10 ^ k)) (sized f (suc k) x (subst (λ (e : ℕ). x < 10 ^ e) (add-suc k f ∙ sym (suc-add k f)) h))
  where
    on : 10 ^ k ≤ x → Sized (suc k) (width_from f (suc k) x) x → Sized k (width_from (suc f) k x) x
    on p r = rw (width_on f k x p) (record {
      above = omega (arith, r.above);
      fits = r.fits;
      tight = λ m a b. ⊎_elim (λ e. subst (λ (i : ℕ). 10 ^ i ≤ x) e p) (λ q. r.tight m q b) (eq-or-lt_of_le a);
    })

    go : Tri x (10 ^ k) → Sized (suc k) (width_from f (suc k) x) x → Sized k (width_from (suc f) k x) x
    go (less p) r = rw (width_here f k x p) (record { above = omega arith; fits = p; tight = λ m a b. absurd (omega arith) })
    go (same p) r = on (omega arith) r
    go (more p) r = on (omega arith) r

pub width_sized : (x : ℕ) → Sized 1 (width x) x
unfolding width
width_sized x = sized x 1 x (omega (arith, pow_above (1 + x)))

pub length_digits : (k x : ℕ) → length (digits k x) ≡ k
unfolding digits
length_digits zero x = refl
length_digits (suc k) x = ap suc (length_digits k x)

pub length-decimal : (x : ℕ) → length (decimal x) ≡ width x
unfolding decimal
length-decimal x = length_digits (width x) x

-- a number below 10 ^ n has at most n digits
pub decimal-short : (n x : ℕ) → 1 ≤ n → x < 10 ^ n → length (decimal x) ≤ n
decimal-short n x a h = go (tri n (width x))
  where
    go : Tri n (width x) → length (decimal x) ≤ n
    go (less p) = absurd (omega (arith, (width_sized x).tight n a p))
    go (same p) = omega (arith, length-decimal x)
    go (more p) = omega (arith, length-decimal x)

-- and one from 10 ^ n on has more
pub decimal_long : (n x : ℕ) → 10 ^ n ≤ x → n < length (decimal x)
decimal_long n x h = go (tri n (width x))
  where
    go : Tri n (width x) → n < length (decimal x)
    go (less p) = omega (arith, length-decimal x)
    go (same p) = absurd (omega (arith, (width_sized x).fits, ap (λ (i : ℕ). 10 ^ i) p))
    go (more p) = absurd (omega (arith, (width_sized x).fits, pow-le-pow_right {n = 10} (omega arith) {i = width x} {j = n} (omega arith)))

-- Reading back.

abbrev pub is_digit : ℕ → Bool
is_digit c = leb (byte "0") c && leb c (byte "9")

abbrev pub is_hex : ℕ → Bool
is_hex c = is_digit c || (leb (byte "a") c && leb c (byte "f"))

-- what follows doesn't go on with a digit, nor with a hex digit
abbrev pub Stops : List ℕ → Type 0
Stops [] = Unit {0}
Stops (c ∷ t) = is_hex c ≡ false

pub digit_yes : (n : ℕ) → n < 10 → is_digit (byte "0" + n) ≡ true
digit_yes n h = rw (le-leb 48 (48 + n) (omega arith), le-leb (48 + n) 57 (omega arith))

-- the number that the digits at the start give, on top of a; and what follows
read_on : ℕ → List ℕ → ℕ × List ℕ
read_on a [] = (a, [])
read_on a (c ∷ t) = elim (is_digit c) [ true ↦ read_on (a * 10 + (c - byte "0")) t | false ↦ (a, c ∷ t) ]

pub read_number : List ℕ → ℕ × List ℕ
read_number t = read_on 0 t

read_digit : (a n : ℕ) (t : List ℕ) → n < 10 → read_on a ((byte "0" + n) ∷ t) ≡ read_on (a * 10 + n) t
unfolding read_on
read_digit a n t h =
    let z : a * 10 + (48 + n - 48) ≡ a * 10 + n = omega arith in
    rw (digit_yes n h, read_on) (ap (λ b. read_on b t) z)

read_stop : (a : ℕ) (t : List ℕ) → Stops t → read_on a t ≡ (a, t)
unfolding read_on
read_stop a [] h = refl
read_stop a (c ∷ t) h = rw (or_left (is_digit c) _ h, read_on)

read_digits : (k a x : ℕ) (t : List ℕ) → Stops t → read_on a (digits k x ++ t) ≡ (a * 10 ^ k + x % 10 ^ k, t)
unfolding digits
read_digits zero a x t h = read_stop a t h ∙ ap (λ b. (b, t)) (omega arith)
read_digits (suc k) a x t h =
    let q = x / 10 ^ k % 10 in
    let e : x % 10 ^ suc k ≡ q * 10 ^ k + x % 10 ^ k = rw (pow-succ' 10 k) (mod-mul x {m = 10} {c = 10 ^ k} (omega arith) (pow_pos k)) in
    let z : (a * 10 + q) * 10 ^ k + x % 10 ^ k ≡ a * 10 ^ suc k + x % 10 ^ suc k = rw (e, pow-succ' 10 k) (omega arith) in
    read_digit a q (digits k x ++ t) (mod-lt (x / 10 ^ k) {m = 10} (omega arith)) ∙ (read_digits k (a * 10 + q) x t h ∙ ap (λ b. (b, t)) z)

pub number_back : (x : ℕ) (t : List ℕ) → Stops t → read_number (decimal x ++ t) ≡ (x, t)
unfolding read_number decimal
number_back x t h =
    let z : 0 * 10 ^ width x + x % 10 ^ width x ≡ x = omega (arith, mod-eq_of_lt (width_sized x).fits) in
    read_digits (width x) 0 x t h ∙ ap (λ b. (b, t)) z

-- a number's text begins with a digit
pub decimal-first : (x : ℕ) → (n : ℕ) × (ds : List ℕ) × (decimal x ≡ (byte "0" + n) ∷ ds) × (n < 10)
unfolding decimal digits
decimal-first x = go (width x) (width_sized x).above
  where
    go : (w : ℕ) → 1 ≤ w → (n : ℕ) × (ds : List ℕ) × (digits w x ≡ (byte "0" + n) ∷ ds) × (n < 10)
    go zero h = absurd (omega arith)
    go (suc k) h = (x / 10 ^ k % 10, digits k x, refl, mod-lt (x / 10 ^ k) {m = 10} (omega arith))
