-- What is written of words is what was read into them: the bytes of a key, packed into words, are read back, and so is a plain value.
-- Assumes nothing.
use Prim.Native.Nat.{ℕ, zero, suc, ◌+◌, ◌-◌, ◌*◌, ◌/◌, ◌%◌, ◌^◌, ◌≤◌, ◌<◌}
use native.Mathlib.Nat.{pow-suc, pow-succ', mod-eq_of_lt, mod-lt, mul-add-div_right, mul_assoc, zero-div}
use native.Mathlib.Omega.{arith}
use mathlib.Core.Path.{◌≡◌, refl, sym, ap, ◌∙◌}
use mathlib.Core.Bool.{true, false}
use mathlib.Core.List.{List, [], ◌∷◌, ◌++◌}
use borrow.Author.Tests.{le-ltb, ne_eqb}
use lib.Arith.{digits_div}
use lib.IntN.{pos, negsuc}
use lib.ListN.{length, take, drop, get_or}
use lib.Pow.{pow-add}
use lib.Seq.{take-suc, take-length, drop-drop, get_or-drop}
use Rattle.meaning.specs.Places.{Plain, null, bool, integer, string}
use Rattle.meaning.specs.Valid.{Bytes, ValidKey, ValidString, ValidPlain}
use Rattle.readers.specs.Words.{weight, pack, words_of, plain_words}
use Rattle.readers.specs.Order.{weight_some, pack_small, bytes_drop}
use Rattle.writers.specs.Words.{byte_of, bytes_of}
use Rattle.writers.specs.Held.{kind_in, plain_of, plain_in}
use Rattle.writers.specs.declared.plain.Kind.TheVariants.{String}

weight_pow : (m : ℕ) → weight m ≡ 256 ^ m
unfolding weight
weight_pow zero = refl
weight_pow (suc m) = ap (λ n. 256 * n) (weight_pow m) ∙ sym (pow-succ' 256 m)

-- the byte i of m, ahead of r others
packed : (m i r : ℕ) (k : List ℕ) → m ≡ suc (i + r) → Bytes k → pack m k / weight r % 256 ≡ get_or k i 0
unfolding pack
packed zero i r k e b = absurd (omega arith)
packed (suc m) i r [] e b = ap (λ n. n % 256) (zero-div (weight r))
packed (suc m) zero r (x ∷ k) e b =
    let f : r ≡ m = omega arith in
    ap (λ n. (x * weight m + pack m k) / weight n % 256) f
    ∙ (ap (λ n. n % 256) (digits_div x (pack_small m k b.1)) ∙ mod-eq_of_lt b.0)
packed (suc m) (suc i) r (x ∷ k) e b =
    let f : m ≡ suc i + r = omega arith in
    let w : weight m ≡ 256 ^ suc i * weight r =
    weight_pow m ∙ (ap (λ n. 256 ^ n) f ∙ (pow-add 256 (suc i) r ∙ ap (λ n. 256 ^ suc i * n) (sym (weight_pow r)))) in
    let d : (x * weight m + pack m k) / weight r ≡ x * 256 ^ suc i + pack m k / weight r =
    ap (λ n. (n + pack m k) / weight r) (ap (λ n. x * n) w ∙ sym (mul_assoc x (256 ^ suc i) (weight r)))
    ∙ mul-add-div_right (weight_some r) (x * 256 ^ suc i) (pack m k) in
    let g : x * 256 ^ suc i ≡ x * 256 ^ i * 256 = ap (λ n. x * n) (pow-suc 256 i) ∙ sym (mul_assoc x (256 ^ i) 256) in
    let h : (x * 256 ^ suc i + pack m k / weight r) % 256 ≡ pack m k / weight r % 256 = omega arith in
    ap (λ n. n % 256) d ∙ (h ∙ packed m i r k (omega arith) b.1)

word_at : (n j : ℕ) (k : List ℕ) → j < n → get_or (words_of n k) j 0 ≡ pack 8 (drop (8 * j) k)
unfolding words_of
word_at zero j k h = absurd (omega arith)
word_at (suc n) zero k h = refl
word_at (suc n) (suc j) k h =
    let e : 8 + 8 * j ≡ 8 * suc j = omega arith in
    word_at n j (drop 8 k) (omega arith) ∙ ap (pack 8) (drop-drop (8 * j) 8 k ∙ ap (λ m. drop m k) e)

byte-back : (n i : ℕ) (k : List ℕ) → Bytes k → i < 8 * n → byte_of (words_of n k) i ≡ get_or k i 0
unfolding byte_of
byte-back n i k b h =
    let j = i / 8 in
    let r = i % 8 in
    let l : r < 8 = mod-lt i {m = 8} (omega arith) in
    let e : 8 ≡ suc (r + (7 - r)) = omega arith in
    let f : 8 * j + r ≡ i = omega arith in
    ap (λ w. w / 256 ^ (7 - r) % 256) (word_at n j k (omega arith))
    ∙ (ap (λ p. pack 8 (drop (8 * j) k) / p % 256) (sym (weight_pow (7 - r)))
    ∙ (packed 8 r (7 - r) (drop (8 * j) k) e (bytes_drop (8 * j) k b)
    ∙ (get_or-drop (8 * j) k r 0 ∙ ap (λ m. get_or k m 0) f)))

first_back : (n : ℕ) (k : List ℕ) → Bytes k → length k ≤ 8 * n → (i : ℕ) → i ≤ length k → bytes_of (words_of n k) i ≡ take i k
unfolding bytes_of
first_back n k b h zero l = refl
first_back n k b h (suc i) l =
    ap (λ bs. bs ++ (byte_of (words_of n k) i ∷ [])) (first_back n k b h i (omega arith))
    ∙ (ap (λ x. take i k ++ (x ∷ [])) (byte-back n i k b (omega arith)) ∙ sym (take-suc k i 0 l))

-- n words hold as many bytes as they have room for
pub bytes_back : (n : ℕ) (k : List ℕ) → Bytes k → length k ≤ 8 * n → bytes_of (words_of n k) (length k) ≡ k
bytes_back n k b h = first_back n k b h (length k) (omega arith) ∙ take-length k

pub key_back : (k : List ℕ) → ValidKey k → bytes_of (pack 8 k ∷ pack 8 (drop 8 k) ∷ []) (length k) ≡ k
unfolding words_of
key_back k v = bytes_back 2 k v.bytes v.short

string_back : (b : List ℕ) → ValidString b → bytes_of (words_of 4 b) (length b) ≡ b
string_back b v = bytes_back 4 b v.bytes v.short

string_kind_lem : (n m : ℕ) → n ≤ 32 → kind_in (5 + n) m ≡ String n
unfolding kind_in
string_kind_lem n m h =
    let a : 5 + n ≡ 1 → ⊥ = λ e. omega arith in
    let b : 5 + n ≡ 2 → ⊥ = λ e. omega arith in
    let d : 5 + n ≡ 3 → ⊥ = λ e. omega arith in
    let f : 5 + n ≡ 4 → ⊥ = λ e. omega arith in
    let l : 5 + n - 5 ≡ n = omega arith in
    rw (
      ne_eqb (5 + n) 1 a,
      ne_eqb (5 + n) 2 b,
      ne_eqb (5 + n) 3 d,
      ne_eqb (5 + n) 4 f,
      le-ltb (5 + n) 5 (omega arith),
      le-ltb 37 (5 + n) (omega arith),
      l,
    )

-- a plain value
pub plain_back : (x : Plain) → ValidPlain x → plain_in (get_or (plain_words x) 0 0) (drop 1 (plain_words x)) ≡ x
unfolding kind_in words_of
plain_back null h = refl
plain_back (bool true) h = refl
plain_back (bool false) h = refl
plain_back (integer (pos n)) h = rw (le-ltb 9223372036854775807 n h)
plain_back (integer (negsuc n)) h = rw (le-ltb 9223372036854775807 n h)
plain_back (string b) h =
    ap (λ k. plain_of k (words_of 4 b)) (string_kind_lem (length b) (pack 8 b) h.short) ∙ ap string (string_back b h)
