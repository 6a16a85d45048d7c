-- Eight numbers with commas.
-- Assumes nothing.
use Prim.Native.Nat.{ℕ, suc, ◌+◌, ◌≤◌, ◌<◌}
use native.Mathlib.Omega.{arith}
use mathlib.Core.Path.{◌≡◌, refl, sym, ap, ◌∙◌, subst}
use mathlib.Core.Logic.{⊎_elim}
use mathlib.Core.List.{List, [], ◌∷◌, ◌++◌, append_assoc, append-nil}
use native.Mathlib.Nat.{eq-or-lt_of_le}
use lib.ListN.{length, get_or, take, drop, set, length-set, drop_of_length-le, get_or-eq_default}
use lib.Seq.{drop-cons, take-suc, take-suc-set, take_all, get_or-set_same, get_or-set_other, length-take-le}
use Rattle.meaning.specs.Ascii.{ascii, byte}
use Rattle.meaning.specs.Text.{decimal, comma_text, counters_text}
use Rattle.meaning.specs.Valid.{ValidCounters}
use Rattle.theorems.specs.Decide.{Tri, less, same, more, tri}
use Rattle.decimal.specs.Take.{Took, Never, fixed}
use Rattle.decimal.specs.Numbers.{numbers, NoDigit, ReadsNumber}
use Rattle.std.specs.Prelude.{Option, None, Some}
use Rattle.decimal.proofs.Digits.{cancel}
use Rattle.meaning.specs.declared.Counters.{Counters}
use Rattle.readers.specs.Reads.{comma_numbers, counters, ReadsCounters}

-- A comma and a number.

pub no_comma : (s : List ℕ) (a : ℕ) → Never (fixed (ascii ",")) s a → Never comma_numbers s a
no_comma s a h = record { not = λ x t v m e. h.not tt (decimal x ++ t) tt tt e }

pub behind_comma : (s : List ℕ) (a n : ℕ) → Took (fixed (ascii ",")) s a tt n → (r : Option (ℕ × ℕ)) → ReadsNumber (numbers 0 4294967295) s n r
    → ReadsNumber comma_numbers s a r
behind_comma s a n h (Some (x, m)) k =
    record {
      valid = k.valid.1;
      text = h.text ∙ ap (λ t. ascii "," ++ t) k.text;
      rest = k.rest;
      within = λ o. k.within (h.within o);
      only = λ y t v o e. k.only y t (omega arith, v) o (cancel (ascii ",") (drop n s) (decimal y ++ t) (sym h.text ∙ e));
    }
behind_comma s a n h None k =
    record { not = λ x t v m e. k.not x t (omega arith, v) m (cancel (ascii ",") (drop n s) (decimal x ++ t) (sym h.text ∙ e)) }

-- what may follow a number may follow it with further ones between
stop : (xs t : List ℕ) → NoDigit t → NoDigit (comma_text xs ++ t)
unfolding comma_text
stop [] t h = h
stop (x ∷ xs) t h = refl

-- one number more, at the end
comma_more : (xs : List ℕ) (x : ℕ) → comma_text (xs ++ (x ∷ [])) ≡ comma_text xs ++ (ascii "," ++ decimal x)
unfolding comma_text
comma_more [] x = ap (λ t. byte "," ∷ t) (append-nil (decimal x))
comma_more (y ∷ xs) x = ap (λ t. byte "," ∷ t) (ap (λ t. decimal y ++ t) (comma_more xs x) ∙ sym
    (append_assoc (decimal y) (comma_text xs) (byte "," ∷ decimal x)))

counters_more : (xs : List ℕ) (x : ℕ) → 0 < length xs → counters_text (xs ++ (x ∷ [])) ≡ counters_text xs ++ (ascii "," ++ decimal x)
unfolding counters_text
counters_more [] x h = absurd (omega arith)
counters_more (y ∷ xs) x h = ap (λ t. decimal y ++ t) (comma_more xs x) ∙ sym
    (append_assoc (decimal y) (comma_text xs) (byte "," ∷ decimal x))

-- after i counters, which are the first of v, the reader is at n; and counters that stand at a go on there with those behind the first i
pub record State (s : List ℕ) (a i n : ℕ) (v : List ℕ) : Type 0 where
  pub some : 1 ≤ i
  pub most : i ≤ 8
  pub long : length v ≡ 8
  pub each : (k : ℕ) → k < i → get_or v k 0 ≤ 4294967295
  pub text : drop a s ≡ counters_text (take i v) ++ drop n s
  pub rest : NoDigit (drop n s)
  pub within : a ≤ length s → n ≤ length s
  pub goes : (w t : List ℕ) → ValidCounters w → NoDigit t → drop a s ≡ counters_text w ++ t
      → (take i w ≡ take i v) × (comma_text (drop i w) ++ t ≡ drop n s)

pub none : (s : List ℕ) (a : ℕ) → Never (numbers 0 4294967295) s a → Never counters s a
unfolding counters_text
none s a h = record { not = go }
  where
    go : (w t : List ℕ) → ValidCounters w → NoDigit t → drop a s ≡ counters_text w ++ t → ⊥
    go [] t v m e = omega (arith, v.eight)
    go (x ∷ w) t v m e = h.not x (comma_text w ++ t) (omega arith, v.each 0) (stop w t m) (e ∙ append_assoc (decimal x) (comma_text w) t)

pub start : (s : List ℕ) (a x n : ℕ) (z : List ℕ) → length z ≡ 8 → Took (numbers 0 4294967295) s a x n → State s a 1 n (set z 0 x)
unfolding counters_text comma_text
start s a x n [] l k = absurd (omega arith)
start s a x n (y ∷ z) l k =
    record {
      some = omega arith;
      most = omega arith;
      long = l;
      each = λ j h. let e : 0 ≡ j = omega arith in subst (λ (i : ℕ). get_or (x ∷ z) i 0 ≤ 4294967295) e k.valid.1;
      text = k.text ∙ ap (λ t. t ++ drop n s) (sym (append-nil (decimal x)));
      rest = k.rest;
      within = k.within;
      goes = go;
    }
  where
    go : (w t : List ℕ) → ValidCounters w → NoDigit t → drop a s ≡ counters_text w ++ t
        → (take 1 w ≡ x ∷ []) × (comma_text (drop 1 w) ++ t ≡ drop n s)
    go [] t v m e = absurd (omega (arith, v.eight))
    go (b ∷ w) t v m e =
        let q = k.only b (comma_text w ++ t) (omega arith, v.each 0) (stop w t m) (e ∙ append_assoc (decimal b) (comma_text w) t) in
        (ap (λ c. c ∷ []) q.0, q.1)

module _ (s : List ℕ) (a i n : ℕ) (v : List ℕ) (st : State s a i n v) where
  -- the counter that stands next, in counters that stand at a
  next : (w t : List ℕ) → ValidCounters w → i < 8
      → comma_text (drop i w) ++ t ≡ (ascii "," ++ decimal (get_or w i 0)) ++ (comma_text (drop (suc i) w) ++ t)
  unfolding comma_text
  next w t o h =
      ap (λ l. comma_text l ++ t) (drop-cons w i 0 (omega (arith, o.eight)))
      ∙ ap (λ l. byte "," ∷ l) (append_assoc (decimal (get_or w i 0)) (comma_text (drop (suc i) w)) t)

  pub refuse : i < 8 → Never comma_numbers s n → Never counters s a
  refuse h k = record {
    not = λ w t o m e.
        k.not (get_or w i 0) (comma_text (drop (suc i) w) ++ t) (o.each i) (stop (drop (suc i) w) t m)
        (sym (st.goes w t o m e).1 ∙ next w t o h);
  }

  pub step : i < 8 → (x m : ℕ) → Took comma_numbers s n x m → State s a (i + 1) m (set v i x)
  step h x m k =
      record {
        some = omega arith;
        most = omega arith;
        long = length-set v i x ∙ st.long;
        each = each;
        text =
            st.text
            ∙ (ap (λ t. counters_text (take i v) ++ t) k.text
            ∙ (sym (append_assoc (counters_text (take i v)) (ascii "," ++ decimal x) (drop m s))
            ∙ ap (λ t. t ++ drop m s)
            (sym (counters_more (take i v) x (omega (arith, st.some, length-take-le i v (omega (arith, st.long))))) ∙ ap
            counters_text (sym front))));
        rest = k.rest;
        within = λ o. k.within (st.within o);
        goes = goes;
      }
    where
      front : take (i + 1) (set v i x) ≡ take i v ++ (x ∷ [])
      front = let e : i + 1 ≡ suc i = omega arith in ap (λ j. take j (set v i x)) e ∙ take-suc-set v i x (omega (arith, st.long))

      each : (j : ℕ) → j < i + 1 → get_or (set v i x) j 0 ≤ 4294967295
      each j g =
          ⊎_elim
          (λ e. subst (λ (y : ℕ). get_or (set v i x) y 0 ≤ 4294967295) (sym e)
          (rw (get_or-set_same v i x 0 (omega (arith, st.long))) k.valid))
          (λ l. rw (get_or-set_other v i j x 0 (λ e. omega arith)) (st.each j l))
          (eq-or-lt_of_le {n = j} {m = i} (omega arith))

      goes : (w t : List ℕ) → ValidCounters w → NoDigit t → drop a s ≡ counters_text w ++ t
          → (take (i + 1) w ≡ take (i + 1) (set v i x)) × (comma_text (drop (i + 1) w) ++ t ≡ drop m s)
      goes w t o d e =
          let f : suc i ≡ i + 1 = omega arith in
          let p = st.goes w t o d e in
          let q = k.only (get_or w i 0) (comma_text (drop (suc i) w) ++ t) (o.each i) (stop (drop (suc i) w) t d)
          (sym p.1 ∙ next w t o h) in (
            ap (λ j. take j w) (sym f) ∙ (take-suc w i 0 (omega (arith, o.eight))
                ∙ (ap (λ l. l ++ (get_or w i 0 ∷ [])) p.0 ∙ (ap (λ y. take i v ++ (y ∷ [])) q.0 ∙ sym front))),
            ap (λ j. comma_text (drop j w) ++ t) (sym f) ∙ q.1,
          )

  pub done : 8 ≤ i → Took counters s a v n
  unfolding comma_text
  done h =
      record {
        valid = record { eight = st.long; each = small };
        text = st.text ∙ ap (λ l. counters_text l ++ drop n s) (take_all i v (omega (arith, st.long)));
        rest = st.rest;
        within = st.within;
        only = λ w t o m e.
            let p = st.goes w t o m e in (
              sym (take_all i w (omega (arith, o.eight))) ∙ (p.0 ∙ take_all i v (omega (arith, st.long))),
              ap (λ l. comma_text l ++ t) (sym (drop_of_length-le w {i = i} (omega (arith, o.eight)))) ∙ p.1,
            );
      }
    where
      small : (k : ℕ) → get_or v k 0 ≤ 4294967295
      small k = by (tri k 8)
        where
          by : Tri k 8 → get_or v k 0 ≤ 4294967295
          by (less g) = st.each k (omega arith)
          by (same g) = omega (arith, get_or-eq_default v 0 {n = k} (omega (arith, st.long)))
          by (more g) = omega (arith, get_or-eq_default v 0 {n = k} (omega (arith, st.long)))

-- what is answered where no counters stand
pub counters_refused : {s : List ℕ} {a : ℕ} (r : Option (Counters × ℕ)) → r ≡ None → Never counters s a → ReadsCounters s a r
counters_refused {s} {a} r e k = subst (ReadsCounters s a) (sym e) k
