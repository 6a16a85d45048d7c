-- Bytes packed into words.
-- Assumes nothing.
use Prim.Native.Nat.{ℕ, zero, suc, ◌+◌, ◌-◌, ◌*◌, ◌≤◌, ◌<◌, ◌^◌}
use native.Mathlib.Omega.{arith}
use mathlib.Core.Path.{◌≡◌, refl, sym, ap, ◌∙◌}
use mathlib.Core.List.{List, [], ◌∷◌, ◌++◌}
use lib.ListN.{length, drop, set, drop_of_length-le, length-drop}
use lib.Seq.{drop-append-le}
use Rattle.std.proofs.lemmas.Nat.{pow-add}
use Rattle.readers.specs.Words.{weight, pack, words_of}

-- each byte is worth 256 of the next
pub weight_power : (m : ℕ) → weight m ≡ 2 ^ (8 * m)
unfolding weight
weight_power zero = refl
weight_power (suc m) = let e : 8 * suc m ≡ 8 + 8 * m = omega arith in rw (e, pow-add 2 8 (8 * m), weight_power m)

pub pack_nil : (m : ℕ) → pack m [] ≡ 0
unfolding pack
pack_nil zero = refl
pack_nil (suc m) = refl

-- what follows the first m bytes is not looked at
pub pack_front : (m : ℕ) (k j : List ℕ) → m ≤ length k → pack m (k ++ j) ≡ pack m k
unfolding pack
pack_front zero k j h = refl
pack_front (suc m) [] j h = absurd (omega arith)
pack_front (suc m) (b ∷ k) j h = ap (λ n. b * weight m + n) (pack_front m k j (omega arith))

-- one byte more
pub pack_more : (m : ℕ) (k : List ℕ) (b : ℕ) → length k < m → pack m (k ++ (b ∷ [])) ≡ pack m k + b * weight (m - suc (length k))
unfolding pack
pack_more zero k b h = absurd (omega arith)
pack_more (suc m) [] b h =
    let e : suc m - 1 ≡ m = omega arith in
    let f : b * weight m + pack m [] ≡ b * weight m = omega (arith, pack_nil m) in
    let g : b * weight (suc m - 1) ≡ 0 + b * weight (suc m - 1) = omega arith in
    f ∙ (ap (λ n. b * weight n) (sym e) ∙ g)
pack_more (suc m) (x ∷ k) b h =
    let e : m - suc (length k) ≡ suc m - suc (suc (length k)) = omega arith in
    let f = ap (λ n. b * weight n) e in
    let r = pack_more m k b (omega arith) in
    omega arith

-- one word more, behind i full ones
pub words_more : (n i : ℕ) (k j : List ℕ) → i < n → length k ≡ 8 * i → length j ≤ 8 → words_of n (k ++ j) ≡ set (words_of n k) i (pack 8 j)
unfolding words_of
words_more zero i k j h l m = absurd (omega arith)
words_more (suc n) zero [] j h l m = ap (λ t. pack 8 j ∷ words_of n t) (drop_of_length-le j m)
words_more (suc n) zero (b ∷ k) j h l m = absurd (omega arith)
words_more (suc n) (suc i) k j h l m =
    let q : 8 ≤ length k = omega arith in
    let r = words_more n i (drop 8 k) j (omega arith) (length-drop 8 k ∙ omega arith) m in
    ap (λ w. w ∷ words_of n (drop 8 (k ++ j))) (pack_front 8 k j q) ∙ ap (λ t. pack 8 k ∷ t) (ap (words_of n) (drop-append-le 8 k j q) ∙ r)
