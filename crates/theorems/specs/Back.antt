-- Reading back what is written of ids, counters, hex and values: each text says one thing, and where it ends. The readers here serve proofs
-- alone; what a layout is, is said by its text.
-- Assumes nothing.
use Rattle.std.specs.Prelude.{ℕ, zero, suc, ◌+◌, ◌-◌, ◌*◌, ◌/◌, ◌%◌, ◌≤◌, ◌<◌, ◌≡◌, refl, Bool, true, false, cond, ◌||◌}
use Rattle.std.specs.Prelude.{List, [], ◌∷◌, ◌++◌, leb, ltb, eqb, ℤ, pos, negsuc, length, drop}
use Rattle.std.proofs.Common.{arith, sym, ap, ◌∙◌, append_assoc, ltb-true, ltb-false, le-leb, ne_eqb}
use Rattle.std.proofs.lemmas.Bool.{lt-leb}
use Rattle.meaning.specs.Ascii.{byte}
use Rattle.meaning.specs.Places.{Plain, null, bool, integer, string}
use Rattle.meaning.specs.Ways.{Assigned, plain, empty_map, empty_list}
use Rattle.meaning.specs.Valid.{Bytes, ValidPlain, ValidAssigned}
use Rattle.meaning.specs.Text.{decimal, integer_text, id_text, comma_text, counters_text, hex_digit, hex, plain_text, assigned_text}
use Rattle.theorems.specs.Decide.{or_left, or_right}
use Rattle.theorems.specs.Decimal.{is_hex, Stops, digit_yes, read_number, number_back, decimal-first}

-- what is read back is what was written: two texts that are equal say the same, and the same follows
pub once : {A : Type 0} (text : A → List ℕ) (read : List ℕ → A × List ℕ) (v w : A) (t u : List ℕ)
    → read (text v ++ t) ≡ (v, t) → read (text w ++ u) ≡ (w, u) → text v ++ t ≡ text w ++ u → (v ≡ w) × (t ≡ u)
once {A} text read v w t u p q e =
    let z : ◌≡◌ {A = A × List ℕ} (v, t) (w, u) = sym p ∙ (ap read e ∙ q) in
    (ap (λ x. x.0) z, ap (λ x. x.1) z)

-- Ids.

pub read_id : List ℕ → ℕ × List ℕ
read_id t =
    let c = read_number t in
    let r = read_number (drop 1 c.1) in
    (c.0 * 8 + (r.0 - 1), r.1)

pub id_back : (i : ℕ) (t : List ℕ) → Stops t → read_id (id_text i ++ t) ≡ (i, t)
unfolding read_id id_text
id_back i t h =
    let a = append_assoc (decimal (i / 8)) (46 ∷ decimal (suc (i % 8))) t in
    let c = number_back (i / 8) (46 ∷ (decimal (suc (i % 8)) ++ t)) refl in
    let r = number_back (suc (i % 8)) t h in
    let z : i / 8 * 8 + (suc (i % 8) - 1) ≡ i = omega arith in
    rw (a, c, r) (ap (λ n. (n, t)) z)

-- Counters.

read_commas : ℕ → List ℕ → List ℕ × List ℕ
read_commas zero t = ([], t)
read_commas (suc f) [] = ([], [])
read_commas (suc f) (c ∷ t) =
    elim (eqb c (byte ",")) [
      | true ↦ (let n = read_number t in let ns = read_commas f n.1 in (n.0 ∷ ns.0, ns.1))
      | false ↦ ([], c ∷ t)
    ]

-- no comma follows
abbrev pub Closed : List ℕ → Type 0
Closed [] = Unit {0}
Closed (c ∷ t) = is_hex c || eqb c (byte ",") ≡ false

commas_end : (f : ℕ) (t : List ℕ) → Closed t → read_commas f t ≡ ([], t)
unfolding read_commas
commas_end zero t h = refl
commas_end (suc f) [] h = refl
commas_end (suc f) (c ∷ t) h = rw (or_right (is_hex c) _ h, read_commas)

closed_stops : (t : List ℕ) → Closed t → Stops t
closed_stops [] h = tt
closed_stops (c ∷ t) h = or_left (is_hex c) _ h

commas_stop : (xs t : List ℕ) → Closed t → Stops (comma_text xs ++ t)
unfolding comma_text
commas_stop [] t h = closed_stops t h
commas_stop (x ∷ xs) t h = refl

commas_back : (f : ℕ) (xs t : List ℕ) → length xs ≤ f → Closed t → read_commas f (comma_text xs ++ t) ≡ (xs, t)
unfolding comma_text read_commas
commas_back f [] t l h = commas_end f t h
commas_back zero (x ∷ xs) t l h = absurd (omega arith)
commas_back (suc f) (x ∷ xs) t l h =
    let a = append_assoc (decimal x) (comma_text xs) t in
    let n = number_back x (comma_text xs ++ t) (commas_stop xs t h) in
    let r = commas_back f xs t (omega arith) h in
    rw (a, n, r)

pub read_counters : List ℕ → List ℕ × List ℕ
read_counters t =
    let n = read_number t in
    let ns = read_commas 7 n.1 in
    (n.0 ∷ ns.0, ns.1)

-- eight counters
pub counters-back : (s t : List ℕ) → length s ≡ 8 → Closed t → read_counters (counters_text s ++ t) ≡ (s, t)
unfolding read_counters counters_text
counters-back [] t l h = absurd (omega arith)
counters-back (x ∷ xs) t l h =
    let a = append_assoc (decimal x) (comma_text xs) t in
    let n = number_back x (comma_text xs ++ t) (commas_stop xs t h) in
    let r = commas_back 7 xs t (omega arith) h in
    rw (a, n, r)

-- Hex.

unhex : ℕ → ℕ
unhex c = cond (leb c (byte "9")) (c - byte "0") (c - byte "a" + 10)

unhex_digit : (n : ℕ) → unhex (hex_digit n) ≡ n
unfolding unhex hex_digit
unhex_digit n = go (ltb n 10) refl
  where
    go : (b : Bool) → ltb n 10 ≡ b → (let c = cond b (48 + n) (97 + (n - 10)) in cond (leb c 57) (c - 48) (c - 97 + 10)) ≡ n
    go true e = let h = ltb-true n 10 e in rw (le-leb (48 + n) 57 (omega arith)) (omega arith)
    go false e = let h = ltb-false n 10 e in rw (lt-leb (97 + (n - 10)) 57 (omega arith)) (omega arith)

hex_yes : (n : ℕ) → n < 16 → is_hex (hex_digit n) ≡ true
unfolding hex_digit
hex_yes n l = go (ltb n 10) refl
  where
    go : (b : Bool) → ltb n 10 ≡ b → is_hex (cond b (48 + n) (97 + (n - 10))) ≡ true
    go true e = rw (digit_yes n (ltb-true n 10 e))
    go false e =
        let h = ltb-false n 10 e in
        let c = 97 + (n - 10) in
        rw (lt-leb c 57 (omega arith), le-leb 48 c (omega arith), le-leb 97 c (omega arith), le-leb c 102 (omega arith))

-- two digits, if the first is one, ahead of what is read behind them
hex_byte : Bool → ℕ → ℕ → List ℕ → List ℕ × List ℕ → List ℕ × List ℕ
hex_byte true x y t r = ((unhex x * 16 + unhex y) ∷ r.0, r.1)
hex_byte false x y t r = ([], x ∷ y ∷ t)

pub read_hex : List ℕ → List ℕ × List ℕ
read_hex [] = ([], [])
read_hex (x ∷ []) = ([], x ∷ [])
read_hex (x ∷ y ∷ t) = hex_byte (is_hex x) x y t (read_hex t)

hex_end : (t : List ℕ) → Stops t → read_hex t ≡ ([], t)
unfolding read_hex hex_byte
hex_end [] h = refl
hex_end (x ∷ []) h = refl
hex_end (x ∷ y ∷ t) h = ap (λ b. hex_byte b x y t (read_hex t)) h

pub hex-back : (k t : List ℕ) → Bytes k → Stops t → read_hex (hex k ++ t) ≡ (k, t)
unfolding hex read_hex hex_byte
hex-back [] t b h = hex_end t h
hex-back (x ∷ k) t b h =
    let p = hex_digit (x / 16) in
    let q = hex_digit (x % 16) in
    let z : unhex p * 16 + unhex q ≡ x = omega (arith, unhex_digit (x / 16), unhex_digit (x % 16)) in
    ap (λ b. hex_byte b p q (hex k ++ t) (read_hex (hex k ++ t))) (hex_yes (x / 16) (omega (arith, b.0)))
    ∙ (ap (λ r. ((unhex p * 16 + unhex q) ∷ r.0, r.1)) (hex-back k t b.1 h) ∙ ap (λ n. (n ∷ k, t)) z)

-- Integers and values.

read_integer : List ℕ → ℤ × List ℕ
read_integer [] = (pos 0, [])
read_integer (c ∷ t) =
    elim (eqb c (byte "-")) [
      | true ↦ (let n = read_number t in (negsuc (n.0 - 1), n.1))
      | false ↦ (let n = read_number (c ∷ t) in (pos n.0, n.1))
    ]

integer_back : (z : ℤ) (t : List ℕ) → Stops t → read_integer (integer_text z ++ t) ≡ (z, t)
unfolding read_integer integer_text
integer_back (pos n) t h =
    let d = decimal-first n in
    let e : eqb (48 + d.0) 45 ≡ false = ne_eqb (48 + d.0) 45 (λ q. omega arith) in
    let f = ap (λ x. x ++ t) d.2 in
    let g : read_number ((48 + d.0) ∷ (d.1 ++ t)) ≡ (n, t) = sym (ap read_number f) ∙ number_back n t h in
    ap read_integer f ∙ rw (e, read_integer, g)
integer_back (negsuc n) t h = rw (number_back (suc n) t h) (ap (λ k. (negsuc k, t)) (let z : suc n - 1 ≡ n = omega arith in z))

pub read_plain : List ℕ → Plain × List ℕ
read_plain [] = (null, [])
read_plain (c ∷ t) =
    elim (eqb c (byte "t")) [
      | true ↦ (bool true, t)
      | false ↦ elim (eqb c (byte "f")) [
        | true ↦ (bool false, t)
        | false ↦ elim (eqb c (byte "i")) [
          | true ↦ (let n = read_integer t in (integer n.0, n.1))
          | false ↦ elim (eqb c (byte "s")) [ true ↦ (let b = read_hex t in (string b.0, b.1)) | false ↦ (null, t) ]
        ]
      ]
    ]

-- a string is of bytes
abbrev pub Spelled : Plain → Type 0
Spelled null = Unit {0}
Spelled (bool b) = Unit {0}
Spelled (integer n) = Unit {0}
Spelled (string b) = Bytes b

pub spelled : (v : Plain) → ValidPlain v → Spelled v
spelled null h = tt
spelled (bool b) h = tt
spelled (integer n) h = tt
spelled (string b) h = h.bytes

pub plain_back : (v : Plain) (t : List ℕ) → Spelled v → Stops t → read_plain (plain_text v ++ t) ≡ (v, t)
unfolding read_plain plain_text
plain_back null t b h = refl
plain_back (bool true) t b h = refl
plain_back (bool false) t b h = refl
plain_back (integer n) t b h = rw (integer_back n t h)
plain_back (string k) t b h = rw (hex-back k t b h)

pub read_assigned : List ℕ → Assigned × List ℕ
read_assigned [] = (empty_map, [])
read_assigned (c ∷ t) =
    elim (eqb c (byte "{")) [
      | true ↦ (empty_map, t)
      | false ↦ elim (eqb c (byte "[")) [ true ↦ (empty_list, t) | false ↦ (let v = read_plain (c ∷ t) in (plain v.0, v.1)) ]
    ]

pub assigned-back : (a : Assigned) (t : List ℕ) → ValidAssigned a → Stops t → read_assigned (assigned_text a ++ t) ≡ (a, t)
unfolding read_assigned assigned_text plain_text
assigned-back (plain null) t b h = rw (plain_back null t tt h)
assigned-back (plain (bool true)) t b h = rw (plain_back (bool true) t tt h)
assigned-back (plain (bool false)) t b h = rw (plain_back (bool false) t tt h)
assigned-back (plain (integer n)) t b h = rw (plain_back (integer n) t tt h)
assigned-back (plain (string k)) t b h = rw (plain_back (string k) t b.bytes h)
assigned-back empty_map t b h = refl
assigned-back empty_list t b h = refl
