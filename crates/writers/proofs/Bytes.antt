-- Laws of bytes in hex, and of bytes that are held as words.
-- Assumes nothing.
use Prim.Native.Nat.{ℕ, zero, suc, ◌+◌, ◌-◌, ◌*◌, ◌/◌, ◌%◌, ◌^◌, ◌≤◌, ◌<◌}
use native.Mathlib.Nat.{pow-succ', mod-lt}
use native.Mathlib.Numerals.{add-one}
use native.Mathlib.Omega.{arith}
use mathlib.Core.Path.{◌≡◌, refl, sym, ap, ◌∙◌}
use mathlib.Core.List.{List, [], ◌∷◌, ◌++◌, append_assoc}
use lib.ListN.{length, get_or, set, length-append, length-set}
use lib.Pow.{pow-add}
use borrow.Author.Tests.{lt-ltb, le-ltb}
use Rattle.meaning.specs.Ascii.{ascii, byte}
use Rattle.meaning.specs.Text.{hex_digit, hex}
use Rattle.decimal.specs.Take.{Wrote}
use Rattle.writers.specs.Words.{byte_of, bytes_of}
use Rattle.writers.proofs.Over.{wrote_none, wrote_as, wrote_byte}

-- the digits below ten
pub digit_low : (n : ℕ) → n < 10 → byte "0" + n ≡ hex_digit n
unfolding hex_digit
digit_low n h = rw (lt-ltb n 10 h)

-- the digits from ten on
pub digit_high : (n : ℕ) → 10 ≤ n → byte "a" + (n - 10) ≡ hex_digit n
unfolding hex_digit
digit_high n h = rw (le-ltb n 10 h)

pub digit_of_table : (n : ℕ) → n < 16 → get_or (ascii "0123456789abcdef") n 0 ≡ hex_digit n
unfolding hex_digit
digit_of_table zero h = refl
digit_of_table (suc zero) h = refl
digit_of_table (suc (suc zero)) h = refl
digit_of_table (suc (suc (suc zero))) h = refl
digit_of_table (suc (suc (suc (suc zero)))) h = refl
digit_of_table (suc (suc (suc (suc (suc zero))))) h = refl
digit_of_table (suc (suc (suc (suc (suc (suc zero)))))) h = refl
digit_of_table (suc (suc (suc (suc (suc (suc (suc zero))))))) h = refl
digit_of_table (suc (suc (suc (suc (suc (suc (suc (suc zero)))))))) h = refl
digit_of_table (suc (suc (suc (suc (suc (suc (suc (suc (suc zero))))))))) h = refl
digit_of_table (suc (suc (suc (suc (suc (suc (suc (suc (suc (suc zero)))))))))) h = refl
digit_of_table (suc (suc (suc (suc (suc (suc (suc (suc (suc (suc (suc zero))))))))))) h = refl
digit_of_table (suc (suc (suc (suc (suc (suc (suc (suc (suc (suc (suc (suc zero)))))))))))) h = refl
digit_of_table (suc (suc (suc (suc (suc (suc (suc (suc (suc (suc (suc (suc (suc zero))))))))))))) h = refl
digit_of_table (suc (suc (suc (suc (suc (suc (suc (suc (suc (suc (suc (suc (suc (suc zero)))))))))))))) h = refl
digit_of_table (suc (suc (suc (suc (suc (suc (suc (suc (suc (suc (suc (suc (suc (suc (suc zero))))))))))))))) h = refl
digit_of_table (suc (suc (suc (suc (suc (suc (suc (suc (suc (suc (suc (suc (suc (suc (suc (suc n)))))))))))))))) h = absurd (omega arith)

-- a shift by whole bytes
pow_bytes : (k : ℕ) → 2 ^ (8 * k) ≡ 256 ^ k
pow_bytes zero = refl
pow_bytes (suc k) =
    let e : 8 * suc k ≡ 8 + 8 * k = omega arith in
    ap (λ n. 2 ^ n) e ∙ (pow-add 2 8 (8 * k) ∙ (ap (λ n. 256 * n) (pow_bytes k) ∙ sym (pow-succ' 256 k)))

pub byte_shifted : (words : List ℕ) (i : ℕ) → get_or words (i / 8) 0 / 2 ^ (56 - 8 * (i % 8)) % 256 ≡ byte_of words i
unfolding byte_of
byte_shifted words i =
    let e : 56 - 8 * (i % 8) ≡ 8 * (7 - i % 8) = omega (arith, mod-lt i {m = 8} (omega arith)) in
    ap (λ p. get_or words (i / 8) 0 / p % 256) (ap (λ n. 2 ^ n) e ∙ pow_bytes (7 - i % 8))

-- what a word holds at a place is a byte
pub byte_small : (words : List ℕ) (i : ℕ) → byte_of words i < 256
unfolding byte_of
byte_small words i = mod-lt (get_or words (i / 8) 0 / 256 ^ (7 - i % 8)) {m = 256} (omega arith)

pub hex-append : (xs ys : List ℕ) → hex (xs ++ ys) ≡ hex xs ++ hex ys
unfolding hex
hex-append [] ys = refl
hex-append (x ∷ xs) ys = ap (λ l. hex_digit (x / 16) ∷ hex_digit (x % 16) ∷ l) (hex-append xs ys)

pub hex-length : (k : List ℕ) → length (hex k) ≡ 2 * length k
unfolding hex
hex-length [] = refl
hex-length (b ∷ k) = omega (arith, hex-length k)

pub bytes_length : (words : List ℕ) (n : ℕ) → length (bytes_of words n) ≡ n
unfolding bytes_of
bytes_length words zero = refl
bytes_length words (suc n) = rw length-append (omega (arith, bytes_length words n))

pub size_hex : (words : List ℕ) (n : ℕ) → length (hex (bytes_of words n)) ≡ 2 * n
size_hex words n = omega (arith, hex-length (bytes_of words n), bytes_length words n)

hex_more : (words : List ℕ) (i : ℕ)
    → (hex (bytes_of words i) ++ (hex_digit (byte_of words i / 16) ∷ [])) ++ (hex_digit (byte_of words i % 16) ∷ []) ≡ hex
    (bytes_of words (i + 1))
unfolding bytes_of hex
hex_more words i =
    rw (add-one i, hex-append (bytes_of words i) (byte_of words i ∷ [])) (append_assoc (hex (bytes_of words i)) _ _)

-- The first i of n bytes are written.
pub record Hexing (words : List ℕ) (n : ℕ) (before after : List ℕ) (i : ℕ) : Type 0 where
  pub most : i ≤ n
  pub long : length after ≡ length before
  pub wrote : Wrote (hex (bytes_of words i)) before after (2 * i)

pub hexing_none : (words : List ℕ) (n : ℕ) (before : List ℕ) → Hexing words n before before 0
unfolding bytes_of hex
hexing_none words n before = record { most = omega arith; long = refl; wrote = wrote_none before }

module _ {words : List ℕ} {n : ℕ} {before after : List ℕ} {i : ℕ} (k : Hexing words n before after i) where
  -- the byte b is written as the digits x and y
  pub hexing_more : length (hex (bytes_of words n)) ≤ length before → i < n → {b x y : ℕ} → b ≡ byte_of words i → x ≡ hex_digit
      (b / 16) → y ≡ hex_digit (b % 16)
      → Hexing words n before (set (set after (2 * i) x) (2 * i + 1) y) (i + 1)
  hexing_more fits h {b} {x} {y} e p q =
      let t = hex (bytes_of words i) in
      let one = wrote_byte k.wrote x (omega (arith, size_hex words i, size_hex words n)) in
      let two = wrote_byte one y (rw length-append (omega (arith, size_hex words i, size_hex words n))) in
      let m : (t ++ (x ∷ [])) ++ (y ∷ []) ≡ hex (bytes_of words (i + 1)) = rw (p, q, e) (hex_more words i) in
      let f : 2 * i + 1 + 1 ≡ 2 * (i + 1) = omega arith in
      record {
        most = omega arith;
        long = length-set (set after (2 * i) x) (2 * i + 1) y ∙ (length-set after (2 * i) x ∙ k.long);
        wrote = rw f at (wrote_as m two);
      }
