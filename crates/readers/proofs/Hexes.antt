-- Bytes in hex at a place.
-- Assumes nothing.
use Prim.Native.Nat.{ℕ, ◌+◌, ◌*◌, ◌/◌, ◌%◌, ◌≤◌, ◌<◌}
use native.Mathlib.Omega.{arith}
use mathlib.Core.Path.{◌≡◌, refl, sym, ap, ◌∙◌, subst}
use mathlib.Core.Bool.{true, true≢false}
use mathlib.Core.List.{List, [], ◌∷◌, ◌++◌, append_assoc, append-nil}
use lib.ListN.{length, get_or, drop, length-append}
use Rattle.std.proofs.lemmas.Bool.Decides.{nat_tests}
use Rattle.meaning.specs.Text.{hex_digit, hex}
use Rattle.meaning.specs.Valid.{Bytes}
use Rattle.theorems.specs.Decimal.{is_hex, Stops}
use Rattle.decimal.specs.Take.{Took, Never}
use Rattle.readers.specs.Hex.{DigitTook, Hexed, Unhexed, hexes}

-- Digits.

is-hex : (n : ℕ) → n < 16 → is_hex (hex_digit n) ≡ true
unfolding hex_digit
is-hex n l = grind (arith, nat_tests)

digit_once : (m n : ℕ) → m < 16 → n < 16 → hex_digit m ≡ hex_digit n → m ≡ n
unfolding hex_digit
digit_once m n a b e = grind (arith, nat_tests)

-- no text both stops and begins with a digit
clash : (n : ℕ) (t u : List ℕ) → n < 16 → Stops t → t ≡ hex_digit n ∷ u → ⊥
clash n t u h st e = true≢false (sym (is-hex n h) ∙ subst Stops e st)

-- Bytes.

pub bytes_append : (k j : List ℕ) → Bytes k → Bytes j → Bytes (k ++ j)
bytes_append [] j h g = g
bytes_append (b ∷ k) j h g = (h.0, bytes_append k j h.1 g)

bytes_rest : (k r : List ℕ) → Bytes (k ++ r) → Bytes r
bytes_rest [] r h = h
bytes_rest (b ∷ k) r h = bytes_rest k r h.1

hex-append : (k j : List ℕ) → hex (k ++ j) ≡ hex k ++ hex j
unfolding hex
hex-append [] j = refl
hex-append (b ∷ k) j = ap (λ t. hex_digit (b / 16) ∷ hex_digit (b % 16) ∷ t) (hex-append k j)

pub none_yet : (s : List ℕ) (a : ℕ) → Hexed s a [] a
unfolding hex
none_yet s a = record { bytes = tt; text = refl; within = λ h. h; goes = λ b t p st e. (b, refl, sym e) }

pub join : (s : List ℕ) (a : ℕ) (k : List ℕ) (n : ℕ) (j : List ℕ) (m : ℕ) → Hexed s a k n → Hexed s n j m → Hexed s a (k ++ j) m
join s a k n j m x y =
    record {
      bytes = bytes_append k j x.bytes y.bytes;
      text = x.text ∙ (ap (λ t. hex k ++ t) y.text
          ∙ (sym (append_assoc (hex k) (hex j) (drop m s)) ∙ ap (λ t. t ++ drop m s) (sym (hex-append k j))));
      within = λ h. y.within (x.within h);
      goes = λ b t p st e.
          let u = x.goes b t p st e in
          let v = y.goes u.0 t (bytes_rest k u.0 (subst Bytes u.1 p)) st (sym u.2) in
          (v.0, u.1 ∙ (ap (λ r. k ++ r) v.1 ∙ sym (append_assoc k j v.0)), v.2);
    }

-- a digit stands at n
module _ (s : List ℕ) (n h : ℕ) (first : DigitTook s n h) where
  -- bytes that stand at n are at least one, and begin with this digit
  one : (r t : List ℕ) → Bytes r → Stops t → hex r ++ t ≡ drop n s
      → (b : ℕ) × (k : List ℕ) × (r ≡ b ∷ k) × (b < 256) × (hex_digit (b / 16) ≡ hex_digit h)
      × (hex_digit (b % 16) ∷ (hex k ++ t) ≡ drop (n + 1) s)
  unfolding hex
  one [] t p st e = absurd (clash h t (drop (n + 1) s) first.small st (e ∙ first.text))
  one (b ∷ k) t p st e =
      let f = e ∙ first.text in
      (b, k, refl, p.0, ap (λ l. get_or l 0 0) f, ap (λ l. drop 1 l) f)

  -- one digit alone is no byte
  pub odd : (a : ℕ) (k : List ℕ) → Hexed s a k n → Stops (drop (n + 1) s) → Unhexed s a
  odd a k x st = record {
    not = λ b t p q e.
        let u = x.goes b t p q e in
        let o = one u.0 t (bytes_rest k u.0 (subst Bytes u.1 p)) q u.2 in
        clash (o.0 % 16) (drop (n + 1) s) (hex o.1 ++ t) (omega arith) st (sym o.5);
  }

  -- m bytes are there, and one more
  pub too_many : (m a : ℕ) (k : List ℕ) → Hexed s a k n → length k ≡ m → Never (hexes m) s a
  too_many m a k x l = record {
    not = λ b t p q e.
        let u = x.goes b t p.1 q e in
        let o = one u.0 t (bytes_rest k u.0 (subst Bytes u.1 p.1)) q u.2 in
        omega (arith, p.0, ap length u.1, length-append k u.0, ap length o.2);
  }

  -- a byte of two digits
  whole : (l : ℕ) → DigitTook s (n + 1) l → Hexed s n ((h * 16 + l) ∷ []) (n + 2)
  unfolding hex
  whole l second =
      let p : (h * 16 + l) / 16 ≡ h = omega (arith, second.small) in
      let q : (h * 16 + l) % 16 ≡ l = omega (arith, second.small) in
      let g : n + 1 + 1 ≡ n + 2 = omega arith in
      let rest : drop (n + 1) s ≡ hex_digit l ∷ drop (n + 2) s = second.text ∙ ap (λ m. hex_digit l ∷ drop m s) g in
      record {
        bytes = (omega (arith, first.small, second.small), tt);
        text = first.text ∙ rw (p, q) (ap (λ t. hex_digit h ∷ t) rest);
        within = λ i. omega (arith, second.inside);
        goes = λ b t ok st e.
            let o = one b t ok st (sym e) in
            let z = o.5 ∙ rest in
            let u : o.0 / 16 ≡ h = digit_once (o.0 / 16) h (omega (arith, o.3)) first.small o.4 in
            let v : o.0 % 16 ≡ l = digit_once (o.0 % 16) l (omega arith) second.small (ap (λ c. get_or c 0 0) z) in
            let w : o.0 ≡ h * 16 + l = omega arith in
            (o.1, o.2 ∙ ap (λ c. c ∷ o.1) w, ap (λ c. drop 1 c) z);
      }

  pub byte_more : (a : ℕ) (k : List ℕ) (l : ℕ) → Hexed s a k n → DigitTook s (n + 1) l → Hexed s a (k ++ ((h * 16 + l) ∷ [])) (n + 2)
  byte_more a k l x second = join s a k n ((h * 16 + l) ∷ []) (n + 2) x (whole l second)

-- where bytes stop, they are all that stand there
pub all : (m : ℕ) (s : List ℕ) (a : ℕ) (k : List ℕ) (n : ℕ) → Hexed s a k n → length k ≤ m → Stops (drop n s) → Took (hexes m) s a k n
unfolding hex
all m s a k n x l st =
    record {
      valid = (l, x.bytes);
      text = x.text;
      rest = st;
      within = x.within;
      only = λ b t p q e.
          let u = x.goes b t p.1 q e in
          nothing u.0 (bytes_rest k u.0 (subst Bytes u.1 p.1)) b t u.1 u.2;
    }
  where
    nothing : (r : List ℕ) → Bytes r → (b t : List ℕ) → b ≡ k ++ r → hex r ++ t ≡ drop n s → (b ≡ k) × (t ≡ drop n s)
    nothing [] p b t e f = (e ∙ append-nil k, f)
    nothing (c ∷ r) p b t e f = absurd (clash (c / 16) (drop n s) (hex_digit (c % 16) ∷ (hex r ++ t)) (omega (arith, p.0)) st (sym f))

pub unhexed : (m : ℕ) (s : List ℕ) (a : ℕ) (k : List ℕ) (n : ℕ) → Hexed s a k n → Unhexed s n → Never (hexes m) s a
unhexed m s a k n x u = record {
  not = λ b t p q e.
      let g = x.goes b t p.1 q e in
      u.not g.0 t (bytes_rest k g.0 (subst Bytes g.1 p.1)) q (sym g.2);
}
