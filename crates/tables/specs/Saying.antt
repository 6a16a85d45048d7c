-- The words of a plain value say it: `plain_once`; and so do those of some values: `each_once`.
-- Assumes nothing.
use Rattle.std.specs.Prelude.{ℕ, zero, suc, ◌*◌, ◌≤◌, ◌≡◌, refl, true, false, pos, negsuc, length, drop}
use Rattle.std.proofs.Common.{arith, sym, ap, ◌∙◌, length-drop}
use mathlib.Core.List.{List, [], ◌∷◌, ◌++◌, head-eq_of_cons-eq, tail-eq_of_cons-eq}
use Rattle.meaning.specs.Places.{Plain, null, bool, integer, string, Value}
use Rattle.meaning.specs.Members.{All}
use Rattle.meaning.specs.Valid.{Bytes, ValidPlain}
use Rattle.theorems.specs.Decide.{Tri, less, same, more, tri}
use Rattle.readers.specs.Words.{weight, pack, words_of, plain_words}
use Rattle.readers.specs.Order.{step_up, pack_small, bytes_drop}
use Rattle.tables.specs.Words.{value_words, each_value}
use Rattle.tables.specs.Parts.{plain_six}

-- words in front that are as many are the same, and so are the words behind
pub split_once : (a c b d : List ℕ) → length a ≡ length c → a ++ b ≡ c ++ d → (a ≡ c) × (b ≡ d)
split_once [] [] b d l e = (refl, e)
split_once [] (y ∷ c) b d l e = absurd (omega arith)
split_once (x ∷ a) [] b d l e = absurd (omega arith)
split_once (x ∷ a) (y ∷ c) b d l e =
    let r = split_once a c b d (omega arith) (tail-eq_of_cons-eq e) in
    (cc (head-eq_of_cons-eq e, r.0), r.1)

-- Strings.

pack_once : (m : ℕ) (k j : List ℕ) → Bytes k → Bytes j → length k ≡ length j → pack m k ≡ pack m j → drop m k ≡ drop m j → k ≡ j
unfolding pack
pack_once zero k j b c l e f = f
pack_once (suc m) [] [] b c l e f = refl
pack_once (suc m) [] (y ∷ j) b c l e f = absurd (omega arith)
pack_once (suc m) (x ∷ k) [] b c l e f = absurd (omega arith)
pack_once (suc m) (x ∷ k) (y ∷ j) b c l e f = go (tri x y) (λ q. pack_once m k j b.1 c.1 (omega arith) q f)
  where
    go : Tri x y → (pack m k ≡ pack m j → k ≡ j) → x ∷ k ≡ y ∷ j
    go (less p) on = absurd (omega (arith, step_up x y (weight m) p, pack_small m k b.1))
    go (same p) on = let w = ap (λ n. n * weight m) p in cc (p, on (omega arith))
    go (more p) on = absurd (omega (arith, step_up y x (weight m) p, pack_small m j c.1))

-- words enough for all the bytes say them
pub bytes_once : (n : ℕ) (k j : List ℕ) → Bytes k → Bytes j → length k ≡ length j → length k ≤ 8 * n → words_of n k ≡ words_of n j → k ≡ j
unfolding words_of
bytes_once zero [] [] b c l h e = refl
bytes_once zero [] (y ∷ j) b c l h e = absurd (omega arith)
bytes_once zero (x ∷ k) j b c l h e = absurd (omega arith)
bytes_once (suc n) k j b c l h e =
    let u = length-drop 8 k in
    let v = length-drop 8 j in
    pack_once 8 k j b c l (head-eq_of_cons-eq e)
    (bytes_once n (drop 8 k) (drop 8 j) (bytes_drop 8 k b) (bytes_drop 8 j c) (omega arith) (omega arith) (tail-eq_of_cons-eq e))

-- Plain values.

abbrev kind : List ℕ → ℕ
kind [] = 0
kind (k ∷ ws) = k

abbrev content : List ℕ → ℕ
content [] = 0
content (k ∷ []) = 0
content (k ∷ n ∷ ws) = n

-- what words say whose kind is no string's
abbrev numbered : ℕ → ℕ → Plain
numbered zero n = null
numbered (suc zero) n = bool true
numbered (suc (suc zero)) n = bool false
numbered (suc (suc (suc zero))) n = integer (pos n)
numbered (suc (suc (suc (suc k)))) n = integer (negsuc n)

abbrev said : List ℕ → Plain
said ws = numbered (kind ws) (content ws)

says : (x : Plain) → kind (plain_words x) ≤ 4 → x ≡ said (plain_words x)
says null h = refl
says (bool true) h = refl
says (bool false) h = refl
says (integer (pos n)) h = refl
says (integer (negsuc n)) h = refl
says (string b) h = absurd (omega arith)

few : (x y : Plain) → kind (plain_words x) ≤ 4 → plain_words x ≡ plain_words y → x ≡ y
few x y h e = says x h ∙ (ap said e ∙ sym (says y (omega (arith, ap kind e))))

-- equal words, equal plain values
pub plain_once : (x y : Plain) → ValidPlain x → ValidPlain y → plain_words x ≡ plain_words y → x ≡ y
plain_once null y v w e = few null y (omega arith) e
plain_once (bool true) y v w e = few (bool true) y (omega arith) e
plain_once (bool false) y v w e = few (bool false) y (omega arith) e
plain_once (integer (pos n)) y v w e = few (integer (pos n)) y (omega arith) e
plain_once (integer (negsuc n)) y v w e = few (integer (negsuc n)) y (omega arith) e
plain_once (string a) null v w e = absurd (omega (arith, ap kind e))
plain_once (string a) (bool true) v w e = absurd (omega (arith, ap kind e))
plain_once (string a) (bool false) v w e = absurd (omega (arith, ap kind e))
plain_once (string a) (integer (pos n)) v w e = absurd (omega (arith, ap kind e))
plain_once (string a) (integer (negsuc n)) v w e = absurd (omega (arith, ap kind e))
plain_once (string a) (string b) v w e =
    ap string (bytes_once 4 a b v.bytes w.bytes (omega (arith, ap kind e)) (omega (arith, v.short)) (tail-eq_of_cons-eq e))

-- Values.

abbrev pub ValidValue : Value → Type 0
ValidValue v = ValidPlain v.val

value_once : (v w : Value) → ValidValue v → ValidValue w → value_words v ≡ value_words w → v ≡ w
value_once v w h k e =
    let i = head-eq_of_cons-eq e in
    let p = plain_once v.val w.val h k (tail-eq_of_cons-eq e) in
    λ t. record { id = i t; val = p t }

-- as many values with equal words are equal
pub each_once : (vs ws : List Value) → length vs ≡ length ws → All ValidValue vs → All ValidValue ws
    → each_value vs ≡ each_value ws → vs ≡ ws
unfolding each_value
each_once [] [] l h k e = refl
each_once [] (w ∷ ws) l h k e = absurd (omega arith)
each_once (v ∷ vs) [] l h k e = absurd (omega arith)
each_once (v ∷ vs) (w ∷ ws) l h k e =
    let n : length (value_words v) ≡ length (value_words w) = omega (arith, plain_six v.val, plain_six w.val) in
    let s = split_once (value_words v) (value_words w) (each_value vs) (each_value ws) n e in
    cc (value_once v w h.0 k.0 s.0, each_once vs ws (omega arith) h.1 k.1 s.1)
