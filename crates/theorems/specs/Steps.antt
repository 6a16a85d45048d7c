-- A way as its steps, written and read back: `{` and a key, `[` and an element id, `[^`.
-- Assumes nothing.
use Rattle.std.specs.Prelude.{ℕ, zero, suc, ◌+◌, ◌≤◌, ◌≡◌, refl, true, false, ◌||◌, List, [], ◌∷◌, ◌++◌, eqb, length, get_or, drop}
use Rattle.std.proofs.Common.{arith, append_assoc, ne_eqb}
use Rattle.meaning.specs.Ascii.{ascii, byte}
use Rattle.meaning.specs.Ids.{counter_of}
use Rattle.meaning.specs.Valid.{Bytes}
use Rattle.meaning.specs.Text.{id_text, hex}
use Rattle.theorems.specs.Decide.{or_left, or_right}
use Rattle.theorems.specs.Decimal.{is_hex, Stops, decimal-first}
use Rattle.theorems.specs.Back.{read_id, id_back, read_hex, hex-back}

pub data Step : Type 0 where
  key : List ℕ → Step
  id : ℕ → Step
  caret : Step

unfoldable pub step_text : Step → List ℕ
step_text (key k) = ascii "{" ++ hex k
step_text (id e) = ascii "[" ++ id_text e
step_text caret = ascii "[^"

unfoldable pub all_text : List Step → List ℕ
all_text [] = []
all_text (s ∷ ss) = step_text s ++ all_text ss

abbrev pub Spelt : List Step → Type 0
Spelt [] = Unit {0}
Spelt (key k ∷ ss) = Bytes k × Spelt ss
Spelt (id e ∷ ss) = Spelt ss
Spelt (caret ∷ ss) = Spelt ss

pub read_steps : ℕ → List ℕ → List Step × List ℕ
read_steps zero t = ([], t)
read_steps (suc f) [] = ([], [])
read_steps (suc f) (c ∷ t) =
    elim (eqb c (byte "{")) [
      | true ↦ (let k = read_hex t in let r = read_steps f k.1 in (key k.0 ∷ r.0, r.1))
      | false ↦ elim (eqb c (byte "[")) [
        | true ↦ elim (eqb (get_or t 0 0) (byte "^")) [
          | true ↦ (let r = read_steps f (drop 1 t) in (caret ∷ r.0, r.1))
          | false ↦ (let i = read_id t in let r = read_steps f i.1 in (id i.0 ∷ r.0, r.1))
        ]
        | false ↦ ([], c ∷ t)
      ]
    ]

-- no further step follows
abbrev pub Ends : List ℕ → Type 0
Ends [] = Unit {0}
Ends (c ∷ t) = is_hex c || (eqb c (byte "{") || eqb c (byte "[")) ≡ false

ends_stops : (t : List ℕ) → Ends t → Stops t
ends_stops [] h = tt
ends_stops (c ∷ t) h = or_left (is_hex c) _ h

pub steps_stop : (ss : List Step) (t : List ℕ) → Ends t → Stops (all_text ss ++ t)
unfolding all_text step_text
steps_stop [] t h = ends_stops t h
steps_stop (key k ∷ ss) t h = refl
steps_stop (id e ∷ ss) t h = refl
steps_stop (caret ∷ ss) t h = refl

no_step : (f : ℕ) (t : List ℕ) → Ends t → read_steps f t ≡ ([], t)
unfolding read_steps
no_step zero t h = refl
no_step (suc f) [] h = refl
no_step (suc f) (c ∷ t) h =
    let g = or_right (is_hex c) _ h in
    rw (or_left (eqb c 123) _ g, or_right (eqb c 123) _ g, read_steps)

-- an id's text doesn't begin with `^`
not_caret : (e : ℕ) (t : List ℕ) → eqb (get_or (id_text e ++ t) 0 0) (byte "^") ≡ false
unfolding id_text
not_caret e t =
    let d = decimal-first (counter_of e) in
    rw d.2 (ne_eqb (48 + d.0) 94 (λ q. omega (arith, d.3)))

pub steps_back : (f : ℕ) (ss : List Step) (t : List ℕ) → length ss ≤ f → Spelt ss → Ends t → read_steps f (all_text ss ++ t) ≡ (ss, t)
unfolding all_text step_text read_steps
steps_back f [] t l b h = no_step f t h
steps_back zero (s ∷ ss) t l b h = absurd (omega arith)
steps_back (suc f) (key k ∷ ss) t l b h =
    rw (
      append_assoc (hex k) (all_text ss) t,
      hex-back k (all_text ss ++ t) b.0 (steps_stop ss t h),
      steps_back f ss t (omega arith) b.1 h,
    )
steps_back (suc f) (id e ∷ ss) t l b h =
    let a = append_assoc (id_text e) (all_text ss) t in
    rw (
      a,
      not_caret e (all_text ss ++ t),
      read_steps,
      a,
      id_back e (all_text ss ++ t) (steps_stop ss t h),
      steps_back f ss t (omega arith) b h,
    )
steps_back (suc f) (caret ∷ ss) t l b h = rw (steps_back f ss t (omega arith) b h)
