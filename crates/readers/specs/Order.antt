-- The words of keys stand in the order of the keys: `words_order`. And they say the key: `words_once`.
-- Assumes nothing.
use Rattle.std.specs.Prelude.{ℕ, zero, suc, ◌+◌, ◌*◌, ◌-◌, ◌≤◌, ◌<◌, ◌≡◌, refl, List, [], ◌∷◌, length, drop}
use Rattle.std.proofs.Common.{arith, mul-le-mul_right, suc-mul, sym, ap, ◌∙◌, length-drop, drop_of_length-le, lt-ltb, le-ltb}
use Rattle.meaning.specs.Places.{Turn, before, equal, beyond, order}
use Rattle.meaning.specs.Valid.{Bytes, ValidKey}
use Rattle.theorems.specs.Decide.{Tri, less, same, more, tri}
use Rattle.theorems.specs.Keys.{TriK, less_k, same_k, more_k, tri_k, order_self}
use Rattle.readers.specs.Words.{weight, pack, key_words}

pub weight_some : (m : ℕ) → 1 ≤ weight m
unfolding weight
weight_some zero = omega arith
weight_some (suc m) = let r = weight_some m in omega arith

-- a smaller byte leaves room for all that follows
pub step_up : (y x w : ℕ) → y < x → y * w + w ≤ x * w
step_up y x w h = let s : suc y * w ≤ x * w = mul-le-mul_right w h in omega (arith, suc-mul y w)

pub pack_small : (m : ℕ) (k : List ℕ) → Bytes k → pack m k < weight m
unfolding pack weight
pack_small zero k h = omega arith
pack_small (suc m) [] h = omega (arith, weight_some m)
pack_small (suc m) (b ∷ k) h = let r = pack_small m k h.1 in let s = step_up b 256 (weight m) h.0 in omega arith

turn_less : (x y : ℕ) (k j : List ℕ) → x < y → order (x ∷ k) (y ∷ j) ≡ before
unfolding order
turn_less x y k j h = rw (lt-ltb x y h, order)

turn_more : (x y : ℕ) (k j : List ℕ) → y < x → order (x ∷ k) (y ∷ j) ≡ beyond
unfolding order
turn_more x y k j h = rw (le-ltb x y (omega arith), lt-ltb y x h, order)

turn_same : (x y : ℕ) (k j : List ℕ) → x ≡ y → order (x ∷ k) (y ∷ j) ≡ order k j
unfolding order
turn_same x y k j h = rw (le-ltb x y (omega arith), le-ltb y x (omega arith), order)

turn-short : (y : ℕ) (j : List ℕ) → order [] (y ∷ j) ≡ before
unfolding order
turn-short y j = refl

turn_long : (x : ℕ) (k : List ℕ) → order (x ∷ k) [] ≡ beyond
unfolding order
turn_long x k = refl

abbrev lengths : List ℕ → List ℕ → Turn
lengths k j = order (length k ∷ []) (length j ∷ [])

-- What the words of the first m bytes say of two keys: one is ahead; or they are level, and the rests decide, or, where both end here,
-- the lengths.
data Front (m : ℕ) (k j : List ℕ) : Type 0 where
  ahead : pack m k < pack m j → order k j ≡ before → Front m k j
  behind : pack m j < pack m k → order k j ≡ beyond → Front m k j
  level : pack m k ≡ pack m j → order k j ≡ order (drop m k) (drop m j) → (length k - m ≡ length j - m → length k ≡ length j) → Front m k j
  ends : pack m k ≡ pack m j → drop m k ≡ [] → drop m j ≡ [] → order k j ≡ lengths k j → Front m k j

front : (m : ℕ) (k j : List ℕ) → Bytes k → Bytes j → Front m k j
unfolding pack
front zero k j b c = level refl refl (λ e. omega arith)
front (suc m) [] [] b c = level refl refl (λ e. refl)
front (suc m) [] (y ∷ j) b c = go (tri 0 (y * weight m + pack m j)) (drop m j) refl
  where
    go : Tri 0 (y * weight m + pack m j) → (l : List ℕ) → drop m j ≡ l → Front (suc m) [] (y ∷ j)
    go (less p) l f = ahead p (turn-short y j)
    go (same p) [] f = ends p refl f (turn-short y j ∙ sym (turn_less 0 (length (y ∷ j)) [] [] (omega arith)))
    go (same p) (z ∷ l) f =
        level p (turn-short y j ∙ (sym (turn-short z l) ∙ ap (order []) (sym f)))
        (λ e. absurd (omega (arith, length-drop m j, ap length f)))
    go (more p) l f = absurd (omega arith)
front (suc m) (x ∷ k) [] b c = go (tri 0 (x * weight m + pack m k)) (drop m k) refl
  where
    go : Tri 0 (x * weight m + pack m k) → (l : List ℕ) → drop m k ≡ l → Front (suc m) (x ∷ k) []
    go (less p) l f = behind p (turn_long x k)
    go (same p) [] f = ends (sym p) f refl (turn_long x k ∙ sym (turn_more (length (x ∷ k)) 0 [] [] (omega arith)))
    go (same p) (z ∷ l) f =
        level (sym p) (turn_long x k ∙ (sym (turn_long z l) ∙ ap (λ t. order t []) (sym f)))
        (λ e. absurd (omega (arith, length-drop m k, ap length f)))
    go (more p) l f = absurd (omega arith)
front (suc m) (x ∷ k) (y ∷ j) b c = go (tri x y) (front m k j b.1 c.1)
  where
    both : x ≡ y → Front m k j → Front (suc m) (x ∷ k) (y ∷ j)
    both q (ahead p e) = ahead (let w = ap (λ n. n * weight m) q in omega arith) (turn_same x y k j q ∙ e)
    both q (behind p e) = behind (let w = ap (λ n. n * weight m) q in omega arith) (turn_same x y k j q ∙ e)
    both q (level p e f) = level (let w = ap (λ n. n * weight m) q in omega arith) (turn_same x y k j q ∙ e) (λ g. ap suc (f (omega arith)))
    both q (ends p f g e) =
        ends (let w = ap (λ n. n * weight m) q in omega arith) f g (turn_same x y k j q ∙ (e ∙ longer (tri (length k) (length j))))
      where
        longer : Tri (length k) (length j) → lengths k j ≡ lengths (x ∷ k) (y ∷ j)
        longer (less h) = turn_less (length k) (length j) [] [] h ∙ sym (turn_less (suc (length k)) (suc (length j)) [] [] (omega arith))
        longer (same h) = turn_same (length k) (length j) [] [] h ∙ sym (turn_same (suc (length k)) (suc (length j)) [] [] (ap suc h))
        longer (more h) = turn_more (length k) (length j) [] [] h ∙ sym (turn_more (suc (length k)) (suc (length j)) [] [] (omega arith))

    go : Tri x y → Front m k j → Front (suc m) (x ∷ k) (y ∷ j)
    go (less p) r = ahead (let s = step_up x y (weight m) p in let t = pack_small m k b.1 in omega arith) (turn_less x y k j p)
    go (same p) r = both p r
    go (more p) r = behind (let s = step_up y x (weight m) p in let t = pack_small m j c.1 in omega arith) (turn_more x y k j p)

pub bytes_drop : (m : ℕ) (k : List ℕ) → Bytes k → Bytes (drop m k)
bytes_drop zero k h = h
bytes_drop (suc m) [] h = tt
bytes_drop (suc m) (x ∷ k) h = bytes_drop m k h.1

-- byte order of keys, a shorter key before its extension, is the order of their three words
pub words_order : (k j : List ℕ) → ValidKey k → ValidKey j → order (key_words k) (key_words j) ≡ order k j
words_order k j v w = first (front 8 k j v.bytes w.bytes)
  where
    second : pack 8 k ≡ pack 8 j → order k j ≡ order (drop 8 k) (drop 8 j) → (length k - 8 ≡ length j - 8 → length k ≡ length j)
        → Front 8 (drop 8 k) (drop 8 j) → order (key_words k) (key_words j) ≡ order k j
    second p e g (ahead q f) =
        turn_same (pack 8 k) (pack 8 j) _ _ p ∙ (turn_less (pack 8 (drop 8 k)) (pack 8 (drop 8 j)) _ _ q ∙ sym (e ∙ f))
    second p e g (behind q f) =
        turn_same (pack 8 k) (pack 8 j) _ _ p ∙ (turn_more (pack 8 (drop 8 k)) (pack 8 (drop 8 j)) _ _ q ∙ sym (e ∙ f))
    second p e g (level q f h) =
        let a = length-drop 8 k in
        let b = length-drop 8 j in
        let l : length k ≡ length j = g (omega (arith, h (omega (arith, v.short, w.short)))) in
        let x : drop 8 (drop 8 k) ≡ [] = drop_of_length-le (drop 8 k) {i = 8} (omega (arith, v.short)) in
        let y : drop 8 (drop 8 j) ≡ [] = drop_of_length-le (drop 8 j) {i = 8} (omega (arith, w.short)) in
        turn_same (pack 8 k) (pack 8 j) _ _ p
        ∙ (turn_same (pack 8 (drop 8 k)) (pack 8 (drop 8 j)) _ _ q
        ∙ (turn_same (length k) (length j) [] [] l ∙ sym (e ∙ (f ∙ (ap (λ t. order t (drop 8 (drop 8 j))) x ∙ ap (order []) y)))))
    second p e g (ends q x y f) =
        turn_same (pack 8 k) (pack 8 j) _ _ p
        ∙ (turn_same (pack 8 (drop 8 k)) (pack 8 (drop 8 j)) _ _ q ∙ (shorter (tri (length (drop 8 k)) (length (drop 8 j))) ∙ sym (e ∙ f)))
      where
        shorter : Tri (length (drop 8 k)) (length (drop 8 j)) → lengths k j ≡ lengths (drop 8 k) (drop 8 j)
        shorter (less h) =
            turn_less (length k) (length j) [] [] (omega (arith, length-drop 8 k, length-drop 8 j))
            ∙ sym (turn_less (length (drop 8 k)) (length (drop 8 j)) [] [] h)
        shorter (same h) =
            turn_same (length k) (length j) [] [] (g (omega (arith, length-drop 8 k, length-drop 8 j)))
            ∙ sym (turn_same (length (drop 8 k)) (length (drop 8 j)) [] [] h)
        shorter (more h) =
            turn_more (length k) (length j) [] [] (omega (arith, length-drop 8 k, length-drop 8 j))
            ∙ sym (turn_more (length (drop 8 k)) (length (drop 8 j)) [] [] h)

    first : Front 8 k j → order (key_words k) (key_words j) ≡ order k j
    first (ahead p e) = turn_less (pack 8 k) (pack 8 j) _ _ p ∙ sym e
    first (behind p e) = turn_more (pack 8 k) (pack 8 j) _ _ p ∙ sym e
    first (level p e g) = second p e g (front 8 (drop 8 k) (drop 8 j) (bytes_drop 8 k v.bytes) (bytes_drop 8 j w.bytes))
    first (ends p x y e) =
        turn_same (pack 8 k) (pack 8 j) _ _ p ∙ (turn_same (pack 8 (drop 8 k)) (pack 8 (drop 8 j)) _ _ (ap (pack 8) (x ∙ sym y)) ∙ sym e)

not_equal : (t : Turn) → before ≡ t → t ≡ equal → ⊥
not_equal t p q = let z : ◌≡◌ {A = ℕ} 0 1 = cc in omega arith

not_equal' : (t : Turn) → beyond ≡ t → t ≡ equal → ⊥
not_equal' t p q = let z : ◌≡◌ {A = ℕ} 0 1 = cc in omega arith

-- equal words, equal keys
pub words_once : (k j : List ℕ) → ValidKey k → ValidKey j → key_words k ≡ key_words j → k ≡ j
words_once k j v w e = go (tri_k k j)
  where
    level : order k j ≡ equal
    level = sym (words_order k j v w) ∙ (ap (λ l. order (key_words k) l) (sym e) ∙ order_self (key_words k))

    go : TriK k j → k ≡ j
    go (less_k p q) = absurd (not_equal (order k j) (sym p) level)
    go (same_k p) = p
    go (more_k p q) = absurd (not_equal' (order k j) (sym p) level)
