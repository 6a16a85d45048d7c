-- The lines of a sheet: each text of a line says one line, and where it ends.
-- Assumes nothing.
use Rattle.std.specs.Prelude.{ℕ, ◌≡◌, refl, Bool, true, false, ◌||◌, List, [], ◌∷◌, ◌++◌, eqb, length, get_or, drop}
use Rattle.std.proofs.Common.{append_assoc}
use Rattle.meaning.specs.Ascii.{byte}
use Rattle.meaning.specs.Valid.{Bytes}
use Rattle.meaning.specs.Text.{decimal, id_text, counters_text, plain_text}
use Rattle.meaning.specs.Sheet.{Spot, in_map, in_list, flags_text, spot_text, line_text}
use Rattle.meaning.specs.Sheet.{Line, sheet_line, seen_line, place_line, mark_line, value_line, end_line}
use Rattle.theorems.specs.Decimal.{Stops, read_number, number_back}
use Rattle.theorems.specs.Back.{once, read_id, id_back, read_counters, counters-back, read_hex, hex-back, read_plain, Spelled, plain_back}

-- what a line must have for its text to say it: keys and strings of bytes, eight counters
abbrev pub SpelledSpot : Spot → Type 0
SpelledSpot (in_map k) = Bytes k
SpelledSpot (in_list i) = Unit {0}

abbrev pub SpelledLine : Line → Type 0
SpelledLine sheet_line = Unit {0}
SpelledLine (seen_line s) = length s ≡ 8
SpelledLine (place_line n p m l) = SpelledSpot p
SpelledLine (mark_line i) = Unit {0}
SpelledLine (value_line v) = Spelled v.val
SpelledLine (end_line n) = Unit {0}

-- the flags, by their letter
has_map : ℕ → Bool
has_map f = eqb f (byte "m") || eqb f (byte "b")

has_list : ℕ → Bool
has_list f = eqb f (byte "l") || eqb f (byte "b")

-- the text of a place line behind its depth n
read_spot : ℕ → List ℕ → Line × List ℕ
read_spot n t =
    let f = get_or t 1 0 in
    elim (eqb (get_or t 0 0) (byte "{")) [
      | true ↦ (let k = read_hex (drop 2 t) in (place_line n (in_map k.0) (has_map f) (has_list f), drop 1 k.1))
      | false ↦ (let i = read_id (drop 2 t) in (place_line n (in_list i.0) (has_map f) (has_list f), drop 1 i.1))
    ]

spot_back : (n : ℕ) (p : Spot) (m l : Bool) (t : List ℕ) → SpelledSpot p
    → read_spot n (spot_text p (flags_text m l) ++ (byte "\n" ∷ t)) ≡ (place_line n p m l, t)
unfolding read_spot spot_text has_map has_list
spot_back n (in_map k) true true t b = rw (hex-back k (10 ∷ t) b refl)
spot_back n (in_map k) true false t b = rw (hex-back k (10 ∷ t) b refl)
spot_back n (in_map k) false true t b = rw (hex-back k (10 ∷ t) b refl)
spot_back n (in_map k) false false t b = rw (hex-back k (10 ∷ t) b refl)
spot_back n (in_list i) true true t b = rw (id_back i (10 ∷ t) refl)
spot_back n (in_list i) true false t b = rw (id_back i (10 ∷ t) refl)
spot_back n (in_list i) false true t b = rw (id_back i (10 ∷ t) refl)
spot_back n (in_list i) false false t b = rw (id_back i (10 ∷ t) refl)

spot_stops : (p : Spot) (f t : List ℕ) → Stops (spot_text p f ++ t)
unfolding spot_text
spot_stops (in_map k) f t = refl
spot_stops (in_list i) f t = refl

-- by the first letter, and the second where two lines share the first
pub read_line : List ℕ → Line × List ℕ
read_line t =
    elim (eqb (get_or t 0 0) (byte "p")) [
      | true ↦ (let n = read_number (drop 6 t) in read_spot n.0 n.1)
      | false ↦ elim (eqb (get_or t 0 0) (byte "m")) [
        | true ↦ (let i = read_id (drop 5 t) in (mark_line i.0, drop 1 i.1))
        | false ↦ elim (eqb (get_or t 0 0) (byte "v")) [
          | true ↦ (let i = read_id (drop 6 t) in let v = read_plain (drop 1 i.1) in
              (value_line (record { id = i.0; val = v.0 }), drop 1 v.1))
          | false ↦ elim (eqb (get_or t 0 0) (byte "e")) [
            | true ↦ (let n = read_number (drop 4 t) in (end_line n.0, drop 1 n.1))
            | false ↦ elim (eqb (get_or t 1 0) (byte "h")) [
              | true ↦ (sheet_line, drop 8 t)
              | false ↦ (let s = read_counters (drop 5 t) in (seen_line s.0, drop 1 s.1))
            ]
          ]
        ]
      ]
    ]

pub line_back : (l : Line) (t : List ℕ) → SpelledLine l → read_line (line_text l ++ t) ≡ (l, t)
unfolding read_line line_text
line_back sheet_line t h = refl
line_back (seen_line s) t h = rw (append_assoc (counters_text s) (10 ∷ []) t, counters-back s (10 ∷ t) h refl)
line_back (place_line n p m l) t h =
    let a = append_assoc (decimal n) (spot_text p (flags_text m l) ++ (10 ∷ [])) t in
    let b = append_assoc (spot_text p (flags_text m l)) (10 ∷ []) t in
    rw (a, b, number_back n (spot_text p (flags_text m l) ++ (10 ∷ t)) (spot_stops p (flags_text m l) (10 ∷ t))) (spot_back n p m l t h)
line_back (mark_line i) t h = rw (append_assoc (id_text i) (10 ∷ []) t, id_back i (10 ∷ t) refl)
line_back (value_line v) t h =
    let a = append_assoc (id_text v.id) (58 ∷ (plain_text v.val ++ (10 ∷ []))) t in
    let b = append_assoc (plain_text v.val) (10 ∷ []) t in
    rw (a, b, id_back v.id (58 ∷ (plain_text v.val ++ (10 ∷ t))) refl, plain_back v.val (10 ∷ t) h refl)
line_back (end_line n) t h = rw (append_assoc (decimal n) (10 ∷ []) t, number_back n (10 ∷ t) refl)

-- equal texts, equal lines
pub line_once : (l m : Line) (t u : List ℕ) → SpelledLine l → SpelledLine m → line_text l ++ t ≡ line_text m ++ u → (l ≡ m) × (t ≡ u)
line_once l m t u p q e = once line_text read_line l m t u (line_back l t p) (line_back m u q) e
