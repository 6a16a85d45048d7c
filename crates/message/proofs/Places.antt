-- The ways of reads.
-- Assumes nothing.
use Prim.Native.Nat.{ℕ, suc, ◌-◌, ◌≤◌, ◌<◌}
use native.Mathlib.Omega.{arith}
use mathlib.Core.Path.{◌≡◌, refl, sym, ap, ◌∙◌, subst}
use mathlib.Core.Bool.{Bool, true, false, false≢true}
use mathlib.Core.List.{List, [], ◌∷◌, ◌++◌, append-nil, append_cancel_right}
use lib.Dec.{eqb}
use lib.ListN.{length, take, drop, length-drop, drop_of_length-le, length-append, take-append-drop}
use lib.Pointwise.{pointwise, bytes_decides}
use lib.Seq.{drop_at}
use Rattle.std.proofs.Common.{Option, Some, None}
use Rattle.meaning.specs.Ascii.{ascii, byte}
use Rattle.meaning.specs.Text.{hex, id_text}
use Rattle.meaning.specs.Read.{Trail, here, by_key, by_element, trail_text, trail_steps, ValidTrail, PlaceWay, ValidPlaceWay, place_way_text}
use Rattle.meaning.specs.Read.{KeysWay, of_root, of_place, ValidKeysWay, keys_way_text, element_way_text}
use Rattle.meaning.specs.Promises.{Says, says, says_nothing}
use Rattle.decimal.specs.Take.{Never}
use Rattle.readers.specs.Words.{key_words}
use Rattle.message.specs.Means.{element_words, trail_words, pad, MeansPlace}
use Rattle.message.specs.Steps.{Step, key, element, caret, step_text, all_text, step_words, all_words, Open}
use Rattle.message.specs.Reads.{Tail, at_key, at_element, at_caret, ways, WayTook}
use Rattle.message.specs.Promises.{Answers, ReadsPlaceWay, ReadsKeysWay, ReadsElementWay}
use Rattle.message.specs.declared.Way.{Way}
use Rattle.message.specs.declared.ways.WayRead.{WayRead}
use Rattle.message.proofs.Trails.{open_good}

steps_of : Trail → List Step
steps_of here = []
steps_of (by_key k t) = key k ∷ steps_of t
steps_of (by_element e t) = element e ∷ steps_of t

trail_text_lem : (t : Trail) → trail_text t ≡ all_text (steps_of t)
unfolding trail_text steps_of all_text step_text
trail_text_lem here = refl
trail_text_lem (by_key k t) = ap (λ x. byte "{" ∷ (hex k ++ x)) (trail_text_lem t)
trail_text_lem (by_element e t) = ap (λ x. byte "[" ∷ (id_text e ++ x)) (trail_text_lem t)

trail_words_lem : (t : Trail) → trail_words t ≡ all_words (steps_of t)
unfolding trail_words steps_of all_words step_words
trail_words_lem here = refl
trail_words_lem (by_key k t) = ap (λ x. key_words k ++ x) (trail_words_lem t)
trail_words_lem (by_element e t) = ap (λ x. element_words e ++ x) (trail_words_lem t)

trail_count : (t : Trail) → length (steps_of t) ≡ trail_steps t
unfolding steps_of trail_steps
trail_count here = refl
trail_count (by_key k t) = ap suc (trail_count t)
trail_count (by_element e t) = ap suc (trail_count t)

trail_open : (t : Trail) → ValidTrail t → Open (steps_of t)
unfolding steps_of
trail_open here v = tt
trail_open (by_key k t) v = (v.0, trail_open t v.1)
trail_open (by_element e t) v = (v.0, trail_open t v.1)

-- a trail of these steps
record Made (xs : List Step) : Type 0 where
  trail : Trail
  valid : ValidTrail trail
  steps : steps_of trail ≡ xs

made : (xs : List Step) → Open xs → Made xs
unfolding steps_of
made [] o = record { trail = here; valid = tt; steps = refl }
made (key k ∷ xs) o =
    let m = made xs o.1 in
    record { trail = by_key k m.trail; valid = (o.0, m.valid); steps = ap (λ l. key k ∷ l) m.steps }
made (element e ∷ xs) o =
    let m = made xs o.1 in
    record { trail = by_element e m.trail; valid = (o.0, m.valid); steps = ap (λ l. element e ∷ l) m.steps }
made (caret ∷ xs) o = absurd o

not_open : (xs : List Step) → Open (xs ++ (caret ∷ [])) → ⊥
not_open [] o = o
not_open (key k ∷ xs) o = not_open xs o.1
not_open (element e ∷ xs) o = not_open xs o.1
not_open (caret ∷ xs) o = o

-- The way of a place.

abbrev apart : PlaceWay → List ℕ × List Step
apart w = (w.top, steps_of w.trail)

whole : (s : List ℕ) (w : PlaceWay) → s ≡ place_way_text w → s ≡ ways.text (apart w) ++ []
unfolding place_way_text
whole s w e = e ∙ (ap (λ t. hex w.top ++ t) (trail_text_lem w.trail) ∙ sym (append-nil (ways.text (apart w))))

apart_valid : (w : PlaceWay) → ValidPlaceWay w → ways.Valid (apart w)
apart_valid w v =
    (v.first, (omega (arith, v.reach, trail_count w.trail), open_good (steps_of w.trail) (trail_open w.trail v.rest)))

abbrev Unsaid : List ℕ → Type 0
Unsaid bytes = (w : PlaceWay) → ValidPlaceWay w → bytes ≡ place_way_text w → ⊥

pub refused : (s : List ℕ) → Unsaid s → ReadsPlaceWay s None
refused s n = record { says = says_nothing n; answers = tt }

pub no_way : (s : List ℕ) → Never ways s 0 → Unsaid s
no_way s h w v q = h.not (apart w) [] (apart_valid w v) tt (whole s w q)

module _ (s : List ℕ) (r : WayRead) (way : WayTook s 0 r) where
  same : (w : PlaceWay) → ValidPlaceWay w → s ≡ place_way_text w → (apart w ≡ (way.top, way.xs)) × ([] ≡ drop r.next s)
  same w v q = way.took.only (apart w) [] (apart_valid w v) tt (whole s w q)

  pub bytes_behind : r.next < length s → Unsaid s
  bytes_behind h w v q = omega (arith, length-drop r.next s, ap length (same w v q).1)

  pub ends_in_caret : r.last ≡ 18 → Unsaid s
  ends_in_caret h w v q = go way.tail
    where
      opened : Open way.xs
      opened = subst Open (ap (λ p. p.1) (same w v q).0) (trail_open w.trail v.rest)

      go : Tail r.last way.xs → ⊥
      go (at_key l o n) = omega arith
      go (at_element l ys e f o) = omega arith
      go (at_caret l ys f o) = not_open ys (subst Open f opened)

  pub a_place : length s ≤ r.next → (r.last ≡ 18 → ⊥) → ReadsPlaceWay s (Some r.way)
  unfolding place_way_text
  a_place h n =
      record {
        says =
            says w
            (record {
              first = way.took.valid.0;
              rest = m.valid;
              reach = omega (arith, way.took.valid.1.0, ap length m.steps, trail_count m.trail);
            })
            (way.took.text
            ∙ (ap (λ t. ways.text (way.top, way.xs) ++ t) (drop_of_length-le s h)
            ∙ (append-nil (ways.text (way.top, way.xs)) ∙ ap (λ t. hex way.top ++ t)
            (ap all_text (sym m.steps) ∙ sym (trail_text_lem m.trail)))));
        answers = record {
          keys = way.keys ∙ ap (λ t. pad 24 (key_words way.top ++ t)) (sym (trail_words_lem m.trail ∙ ap all_words m.steps));
          count = way.count ∙ ap suc (sym (ap length m.steps) ∙ trail_count m.trail);
        };
      }
    where
      opened : Tail r.last way.xs → Open way.xs
      opened (at_key l o q) = o
      opened (at_element l ys e f o) = o
      opened (at_caret l ys f o) = absurd (n l)

      m : Made way.xs
      m = made way.xs (opened way.tail)

      w : PlaceWay
      w = record { top = way.top; trail = m.trail }

-- A place's way and one byte more.

pub root : (s : List ℕ) → length s ≡ 0 → ReadsKeysWay s (Some (record { keys = pad 24 []; n = 0 }))
unfolding keys_way_text
root [] h = record { says = says of_root tt refl; answers = (refl, refl) }
root (x ∷ s) h = absurd (omega arith)

-- whether a text ends in the byte c, as it is tested
abbrev pub ends_in : ℕ → List ℕ → Bool
ends_in c s = pointwise eqb (drop (length s - 1) s) (c ∷ [])

pub ahead : (c : ℕ) (s p : List ℕ) → ends_in c s ≡ true → p ≡ take (length s - 1) s → s ≡ p ++ (c ∷ [])
ahead c s p h e =
    sym (take-append-drop (length s - 1) s)
    ∙ (ap (λ t. take (length s - 1) s ++ t) ((bytes_decides (drop (length s - 1) s) (c ∷ [])).0 h) ∙ ap (λ t. t ++ (c ∷ [])) (sym e))

-- it ends in another byte, or in none
not_behind : (c : ℕ) (s p : List ℕ) → ends_in c s ≡ false → s ≡ p ++ (c ∷ []) → ⊥
not_behind c s p h e =
    let n : length p ≡ length (p ++ (c ∷ [])) - 1 = omega (arith, length-append p (c ∷ [])) in
    false≢true
    (sym h
    ∙ (bytes_decides (drop (length s - 1) s) (c ∷ [])).1
    (ap (λ t. drop (length t - 1) t) e ∙ drop_at p (c ∷ []) (length (p ++ (c ∷ [])) - 1) n))

pub no_brace : (s : List ℕ) → (length s ≡ 0 → ⊥) → ends_in (byte "{") s ≡ false → ReadsKeysWay s None
unfolding keys_way_text
no_brace s some h = record { says = says_nothing none; answers = tt }
  where
    none : (w : KeysWay) → ValidKeysWay w → s ≡ keys_way_text w → ⊥
    none of_root v q = some (ap length q)
    none (of_place w) v q = not_behind (byte "{") s (place_way_text w) h q

pub no_bracket : (s : List ℕ) → ends_in (byte "[") s ≡ false → ReadsElementWay s None
unfolding element_way_text
no_bracket s h = record { says = says_nothing (λ w v q. not_behind (byte "[") s (place_way_text w) h q); answers = tt }

module _ (s p : List ℕ) (r : Option Way) where
  pub behind_brace : s ≡ p ++ ascii "{" → ReadsPlaceWay p r → ReadsKeysWay s r
  unfolding keys_way_text
  behind_brace f k = go k.says r k.answers
    where
      go : (d : Says ValidPlaceWay place_way_text p) (r : Option Way) → Answers MeansPlace r d → ReadsKeysWay s r
      go (says w v e) (Some x) a = record { says = says (of_place w) v (f ∙ ap (λ t. t ++ ascii "{") e); answers = a }
      go (says w v e) None a = absurd a
      go (says_nothing n) (Some x) a = absurd a
      go (says_nothing n) None a = record { says = says_nothing none; answers = tt }
        where
          none : (w : KeysWay) → ValidKeysWay w → s ≡ keys_way_text w → ⊥
          none of_root v q = omega (arith, ap length (sym f ∙ q), length-append p (ascii "{"))
          none (of_place w) v q = n w v (append_cancel_right p (place_way_text w) (ascii "{") (sym f ∙ q))

  pub behind_bracket : s ≡ p ++ ascii "[" → ReadsPlaceWay p r → ReadsElementWay s r
  unfolding element_way_text
  behind_bracket f k = go k.says r k.answers
    where
      go : (d : Says ValidPlaceWay place_way_text p) (r : Option Way) → Answers MeansPlace r d → ReadsElementWay s r
      go (says w v e) (Some x) a = record { says = says w v (f ∙ ap (λ t. t ++ ascii "[") e); answers = a }
      go (says w v e) None a = absurd a
      go (says_nothing n) (Some x) a = absurd a
      go (says_nothing n) None a =
          record {
            says = says_nothing (λ w v q. n w v (append_cancel_right p (place_way_text w) (ascii "[") (sym f ∙ q)));
            answers = tt;
          }
