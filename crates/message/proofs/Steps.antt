-- One step of a way.
-- Assumes nothing.
use Prim.Native.Nat.{ℕ, suc, ◌+◌, ◌≤◌, ◌<◌}
use native.Mathlib.Omega.{arith}
use mathlib.Core.Path.{◌≡◌, refl, sym, ap, ◌∙◌, subst}
use mathlib.Core.List.{List, [], ◌∷◌, ◌++◌}
use lib.ListN.{length, get_or, drop, drop_of_length-le}
use lib.Seq.{drop-cons}
use Rattle.std.proofs.Common.{Option, Some, None, add-one}
use Rattle.meaning.specs.Ascii.{ascii, byte}
use Rattle.meaning.specs.Ids.{counter_of, entry_of}
use Rattle.meaning.specs.Text.{decimal, id_text, hex}
use Rattle.theorems.specs.Decimal.{is_digit, is_hex, Stops, decimal-first}
use Rattle.decimal.specs.Take.{Took, Never, fixed}
use Rattle.decimal.specs.Numbers.{NoDigit}
use Rattle.readers.specs.Reads.{keys, ids}
use Rattle.readers.specs.Hex.{ReadsKey}
use Rattle.readers.specs.declared.Key.{Key}
use Rattle.message.specs.Steps.{Step, key, element, caret, step_text, step_words, steps, Finished}
use Rattle.message.specs.Reads.{is_caret, is_element, ReadsListStep, ReadsStep}

-- an id's text doesn't begin with `^`
no_caret : (e : ℕ) (t u : List ℕ) → id_text e ++ t ≡ byte "^" ∷ u → ⊥
unfolding id_text
no_caret e t u q =
    let d = decimal-first (counter_of e) in
    let r = ascii "." ++ decimal (suc (entry_of e)) in
    omega (arith, d.3, ap (λ l. get_or l 0 0) (sym (ap (λ l. (l ++ r) ++ t) d.2) ∙ q))

module _ (s : List ℕ) (a : ℕ) (inside : a < length s) where
  next_drop : drop a s ≡ get_or s a 0 ∷ drop (a + 1) s
  next_drop = rw (add-one, drop-cons s a 0) refl

  -- a text with its first byte there
  at_byte : (c : ℕ) (t : List ℕ) → drop a s ≡ c ∷ t → (get_or s a 0 ≡ c) × (drop (a + 1) s ≡ t)
  at_byte c t e = let f = sym next_drop ∙ e in (ap (λ l. get_or l 0 0) f, ap (λ l. drop 1 l) f)

  begins : (c : ℕ) → get_or s a 0 ≡ c → drop a s ≡ c ∷ drop (a + 1) s
  begins c h = next_drop ∙ ap (λ x. x ∷ drop (a + 1) s) h

  pub key_step : get_or s a 0 ≡ byte "{" → (k : List ℕ) (n : ℕ) → Took keys s (a + 1) k n → Took steps s a (key k) n
  unfolding step_text
  key_step h k n j =
      record {
        valid = j.valid;
        text = begins (byte "{") h ∙ ap (λ t. byte "{" ∷ t) j.text;
        rest = j.rest;
        within = λ i. j.within (omega arith);
        only = alone;
      }
    where
      alone : (x : Step) (t : List ℕ) → steps.Valid x → steps.More x t → drop a s ≡ step_text x ++ t → (x ≡ key k) × (t ≡ drop n s)
      alone (key i) t v m e = let q = j.only i t v m (at_byte (byte "{") (hex i ++ t) e).1 in (ap key q.0, q.1)
      alone (element i) t v m e = absurd (omega (arith, (at_byte (byte "[") (id_text i ++ t) e).0))
      alone caret t v m e = absurd (omega (arith, (at_byte (byte "[") (byte "^" ∷ t) e).0))

  pub no_key_step : get_or s a 0 ≡ byte "{" → Never keys s (a + 1) → Never steps s a
  unfolding step_text
  no_key_step h j = record { not = none }
    where
      none : (x : Step) (t : List ℕ) → steps.Valid x → steps.More x t → drop a s ≡ step_text x ++ t → ⊥
      none (key i) t v m e = j.not i t v m (at_byte (byte "{") (hex i ++ t) e).1
      none (element i) t v m e = omega (arith, (at_byte (byte "[") (id_text i ++ t) e).0)
      none caret t v m e = omega (arith, (at_byte (byte "[") (byte "^" ∷ t) e).0)

  pub element_step : get_or s a 0 ≡ byte "[" → Never (fixed (ascii "^")) s (a + 1) → (i n : ℕ) → Took ids s (a + 1) i n → Took steps s
      a (element i) n
  unfolding step_text
  element_step h c i n j =
      record {
        valid = j.valid;
        text = begins (byte "[") h ∙ ap (λ t. byte "[" ∷ t) j.text;
        rest = j.rest;
        within = λ k. j.within (omega arith);
        only = alone;
      }
    where
      alone : (x : Step) (t : List ℕ) → steps.Valid x → steps.More x t → drop a s ≡ step_text x ++ t → (x ≡ element i) × (t ≡ drop n s)
      alone (key k) t v m e = absurd (omega (arith, (at_byte (byte "{") (hex k ++ t) e).0))
      alone (element k) t v m e = let q = j.only k t v m (at_byte (byte "[") (id_text k ++ t) e).1 in (ap element q.0, q.1)
      alone caret t v m e = absurd (c.not tt t tt tt (at_byte (byte "[") (byte "^" ∷ t) e).1)

  pub caret_step : get_or s a 0 ≡ byte "[" → (n : ℕ) → Took (fixed (ascii "^")) s (a + 1) tt n → Took steps s a caret n
  unfolding step_text
  caret_step h n j =
      record {
        valid = tt;
        text = begins (byte "[") h ∙ ap (λ t. byte "[" ∷ t) j.text;
        rest = tt;
        within = λ k. j.within (omega arith);
        only = alone;
      }
    where
      alone : (x : Step) (t : List ℕ) → steps.Valid x → steps.More x t → drop a s ≡ step_text x ++ t → (x ≡ caret) × (t ≡ drop n s)
      alone (key k) t v m e = absurd (omega (arith, (at_byte (byte "{") (hex k ++ t) e).0))
      alone (element k) t v m e = absurd (no_caret k t (drop n s) (sym (at_byte (byte "[") (id_text k ++ t) e).1 ∙ j.text))
      alone caret t v m e = (refl, (j.only tt t tt tt (at_byte (byte "[") (byte "^" ∷ t) e).1).1)

  pub no_list_step : get_or s a 0 ≡ byte "[" → Never (fixed (ascii "^")) s (a + 1) → Never ids s (a + 1) → Never steps s a
  unfolding step_text
  no_list_step h c j = record { not = none }
    where
      none : (x : Step) (t : List ℕ) → steps.Valid x → steps.More x t → drop a s ≡ step_text x ++ t → ⊥
      none (key k) t v m e = omega (arith, (at_byte (byte "{") (hex k ++ t) e).0)
      none (element k) t v m e = j.not k t v m (at_byte (byte "[") (id_text k ++ t) e).1
      none caret t v m e = c.not tt t tt tt (at_byte (byte "[") (byte "^" ∷ t) e).1

  pub no_step : (get_or s a 0 ≡ byte "{" → ⊥) → (get_or s a 0 ≡ byte "[" → ⊥) → Never steps s a
  unfolding step_text
  no_step x y = record { not = none }
    where
      none : (z : Step) (t : List ℕ) → steps.Valid z → steps.More z t → drop a s ≡ step_text z ++ t → ⊥
      none (key k) t v m e = x (at_byte (byte "{") (hex k ++ t) e).0
      none (element k) t v m e = y (at_byte (byte "[") (id_text k ++ t) e).0
      none caret t v m e = y (at_byte (byte "[") (byte "^" ∷ t) e).0

  pub unfinished : (get_or s a 0 ≡ byte "\n" → ⊥) → Finished (drop a s) → ⊥
  unfinished h f = h (subst Finished (drop-cons s a 0 inside) f)

  -- The reader of a step, by its first byte.

  pub behind_brace : get_or s a 0 ≡ byte "{" → (r : Option (Key × ℕ)) → ReadsKey s (a + 1) r → ReadsStep s a r
  unfolding step_words
  behind_brace h (Some (w, n)) k = record { step = key k.key; took = key_step h k.key n k.took; words = k.words }
  behind_brace h None k = no_key_step h k

  pub behind_bracket : get_or s a 0 ≡ byte "[" → (r : Option (Key × ℕ)) → ReadsListStep s (a + 1) r → ReadsStep s a r
  unfolding step_words
  behind_bracket h (Some (k, n)) (is_caret j w) = record { step = caret; took = caret_step h n j; words = w }
  behind_bracket h (Some (k, n)) (is_element e c j w) = record { step = element e; took = element_step h c e n j; words = w }
  behind_bracket h None k = no_list_step h k.0 k.1

-- no step stands where the text has ended
pub no_step_past : (s : List ℕ) (a : ℕ) → length s ≤ a → Never steps s a
unfolding step_text
no_step_past s a h = record { not = none }
  where
    ended : drop a s ≡ []
    ended = drop_of_length-le s h

    none : (z : Step) (t : List ℕ) → steps.Valid z → steps.More z t → drop a s ≡ step_text z ++ t → ⊥
    none (key k) t v m e = omega (arith, ap length (sym ended ∙ e))
    none (element k) t v m e = omega (arith, ap length (sym ended ∙ e))
    none caret t v m e = omega (arith, ap length (sym ended ∙ e))

-- a step that stands is not the end
pub stands_on : (s : List ℕ) (n m : ℕ) (x : Step) → Took steps s n x m → Finished (drop n s) → ⊥
unfolding step_text
stands_on s n m (key k) j f = let e : byte "{" ≡ byte "\n" = subst Finished j.text f in omega arith
stands_on s n m (element k) j f = let e : byte "[" ≡ byte "\n" = subst Finished j.text f in omega arith
stands_on s n m caret j f = let e : byte "[" ≡ byte "\n" = subst Finished j.text f in omega arith

pub finished_stops : (t : List ℕ) → Finished t → Stops t
finished_stops [] f = tt
finished_stops (c ∷ t) f = ap is_hex f

pub finished_digit : (t : List ℕ) → Finished t → NoDigit t
finished_digit [] f = tt
finished_digit (c ∷ t) f = ap is_digit f

-- what a step's first byte says of it
pub ruleset first_byte = (behind_brace, behind_bracket, no_step, no_step_past)
