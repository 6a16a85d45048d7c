-- An integer is a number, or `-` and a number from 1 on.
-- Assumes nothing.
use Prim.Native.Nat.{ℕ, suc, ◌-◌}
use native.Mathlib.Omega.{arith}
use mathlib.Core.Path.{◌≡◌, sym, ap, ◌∙◌}
use mathlib.Core.List.{List, ◌∷◌, ◌++◌}
use lib.IntN.{ℤ, pos, negsuc}
use lib.ListN.{get_or, drop}
use Rattle.meaning.specs.Ascii.{ascii, byte}
use Rattle.meaning.specs.Text.{decimal, integer_text}
use Rattle.theorems.specs.Decimal.{decimal-first}
use Rattle.decimal.specs.Take.{Took, Never, fixed}
use Rattle.decimal.specs.Numbers.{numbers, NoDigit}
use Rattle.decimal.proofs.Digits.{cancel}
use Rattle.readers.specs.Reads.{integers}

-- no number begins with `-`
no_minus : (n : ℕ) (t u : List ℕ) → decimal n ++ t ≡ byte "-" ∷ u → ⊥
no_minus n t u e =
    let d = decimal-first n in
    omega (arith, d.3, ap (λ x. get_or x 0 0) (sym (ap (λ l. l ++ t) d.2) ∙ e))

module _ (s : List ℕ) (a : ℕ) where
  module _ (h : Never (fixed (ascii "-")) s a) where
    pub no_number : Never (numbers 0 9223372036854775807) s a → Never integers s a
    unfolding integer_text
    no_number k = record { not = none }
      where
        none : (z : ℤ) (t : List ℕ) → integers.Valid z → NoDigit t → drop a s ≡ integer_text z ++ t → ⊥
        none (pos n) t v m e = k.not n t (omega arith, v) m e
        none (negsuc n) t v m e = h.not tt (decimal (suc n) ++ t) tt tt e

    pub non_neg : (n m : ℕ) → Took (numbers 0 9223372036854775807) s a n m → Took integers s a (pos n) m
    unfolding integer_text
    non_neg n m k = record { valid = k.valid.1; text = k.text; rest = k.rest; within = k.within; only = alone }
      where
        alone : (z : ℤ) (t : List ℕ) → integers.Valid z → NoDigit t → drop a s ≡ integer_text z ++ t → (z ≡ pos n) × (t ≡ drop m s)
        alone (pos x) t v o e = let q = k.only x t (omega arith, v) o e in (ap pos q.0, q.1)
        alone (negsuc x) t v o e = absurd (h.not tt (decimal (suc x) ++ t) tt tt e)

  module _ (n : ℕ) (h : Took (fixed (ascii "-")) s a tt n) where
    pub no_magnitude : Never (numbers 1 9223372036854775808) s n → Never integers s a
    unfolding integer_text
    no_magnitude k = record { not = none }
      where
        none : (z : ℤ) (t : List ℕ) → integers.Valid z → NoDigit t → drop a s ≡ integer_text z ++ t → ⊥
        none (pos x) t v m e = no_minus x t (drop n s) (sym e ∙ h.text)
        none (negsuc x) t v m e = k.not (suc x) t (omega arith, omega arith) m
            (cancel (ascii "-") (drop n s) (decimal (suc x) ++ t) (sym h.text ∙ e))

    pub neg : (x m : ℕ) → Took (numbers 1 9223372036854775808) s n x m → Took integers s a (negsuc (x - 1)) m
    unfolding integer_text
    neg x m k =
        let e : suc (x - 1) ≡ x = omega (arith, k.valid.0) in
        record {
          valid = omega (arith, k.valid.0, k.valid.1);
          text = h.text ∙ ap (λ t. ascii "-" ++ t) (k.text ∙ ap (λ y. decimal y ++ drop m s) (sym e));
          rest = k.rest;
          within = λ o. k.within (h.within o);
          only = alone;
        }
      where
        alone : (z : ℤ) (t : List ℕ) → integers.Valid z → NoDigit t → drop a s ≡ integer_text z ++ t → (z ≡ negsuc (x - 1)) × (t ≡ drop m s)
        alone (pos y) t v o e = absurd (no_minus y t (drop n s) (sym e ∙ h.text))
        alone (negsuc y) t v o e =
            let q = k.only (suc y) t (omega arith, omega arith) o
            (cancel (ascii "-") (drop n s) (decimal (suc y) ++ t) (sym h.text ∙ e)) in
            let r : y ≡ x - 1 = omega (arith, q.0) in
            (ap negsuc r, q.1)
