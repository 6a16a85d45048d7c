-- A fixed text at a place.
-- Assumes nothing.
use Prim.Native.Nat.{ℕ, suc, ◌+◌, ◌≤◌, ◌<◌}
use native.Mathlib.Omega.{arith}
use mathlib.Core.Path.{◌≡◌, sym, ap, ◌∙◌, subst}
use mathlib.Core.List.{List, [], ◌∷◌, ◌++◌}
use lib.ListN.{length, get_or, drop, length-append, length-drop, drop_of_length-le}
use lib.Seq.{drop-cons, drop-drop}
use Rattle.std.specs.Prelude.{Option, None, Some}
use Rattle.decimal.specs.Take.{Took, Never, fixed}
use Rattle.decimal.proofs.Layouts.{stands, lacks}
use Rattle.readers.specs.Reads.{ReadsText}

-- one more byte of a text
pub next-drop : (s : List ℕ) (n : ℕ) → n < length s → drop n s ≡ get_or s n 0 ∷ drop (n + 1) s
next-drop s n h = let e : suc n ≡ n + 1 = omega arith in drop-cons s n 0 h ∙ ap (λ m. get_or s n 0 ∷ drop m s) e

-- a text at the start of what stands at a
pub text_at : (p s : List ℕ) (a : ℕ) → drop a s ≡ p ++ drop (length p) (drop a s) → Took (fixed p) s a tt (a + length p)
text_at p s a e =
    stands p s a (a + length p) (e ∙ ap (λ t. p ++ t) (drop-drop (length p) a s))
    (λ h. omega (arith, ap length e, length-append p (drop (length p) (drop a s)), length-drop a s))

-- the byte b at a, or another, or none
module _ (s : List ℕ) (a b : ℕ) where
  pub byte_at : a < length s → get_or s a 0 ≡ b → Took (fixed (b ∷ [])) s a tt (a + 1)
  byte_at h e = stands (b ∷ []) s a (a + 1) (next-drop s a h ∙ ap (λ c. c ∷ drop (a + 1) s) e) (λ l. omega arith)

  pub byte_differs : a < length s → (get_or s a 0 ≡ b → ⊥) → Never (fixed (b ∷ [])) s a
  byte_differs h d = lacks (b ∷ []) s a (λ t e. d (ap (λ x. get_or x 0 0) (sym (next-drop s a h) ∙ e)))

  pub byte_lacks : length s ≤ a → Never (fixed (b ∷ [])) s a
  byte_lacks h = lacks (b ∷ []) s a (λ t e. omega (arith, ap length (sym (drop_of_length-le s h) ∙ e)))

-- What a reader of a fixed text said, where its answer is known.

pub text_took : {p s : List ℕ} {a n : ℕ} (r : Option ℕ) → r ≡ Some n → ReadsText p s a r → Took (fixed p) s a tt n
text_took {p} {s} {a} r e k = subst (ReadsText p s a) e k

pub text_none : {p s : List ℕ} {a : ℕ} (r : Option ℕ) → r ≡ None → ReadsText p s a r → Never (fixed p) s a
text_none {p} {s} {a} r e k = subst (ReadsText p s a) e k
