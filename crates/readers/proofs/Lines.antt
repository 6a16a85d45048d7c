-- A line is what stands in front of the first line feed.
-- Assumes nothing.
use Prim.Native.Nat.{ℕ, suc, ◌+◌}
use native.Mathlib.Omega.{arith}
use mathlib.Core.Path.{◌≡◌, refl, sym, ap, ◌∙◌, subst}
use mathlib.Core.Bool.{Bool, true, false, true≢false, not}
use mathlib.Core.List.{List, [], ◌∷◌, ◌++◌}
use lib.ListN.{length, take, drop, take-append-drop, length-drop}
use lib.Seq.{drop-drop}
use Rattle.std.specs.Prelude.{◌==◌, cond, position}
use Rattle.std.specs.Option.{unwrap_or}
use Rattle.std.specs.List.{position_or_len}
use Rattle.std.proofs.lemmas.Bool.Decides.{Decides-eqb}
use Rattle.std.proofs.lemmas.Grind.{common_steps}
use Rattle.std.proofs.lemmas.List.Folds.{length-prefix_len}
use Rattle.std.proofs.lemmas.List.Sums.{prefix_len-le-length}
use Rattle.meaning.specs.Ascii.{byte}
use Rattle.readers.specs.Lines.{Unbroken, Ended, IsLine}

abbrev pub feed : ℕ → Bool
feed b = b == byte "\n"

-- how long the first line of a text is
abbrev pub line_length : List ℕ → ℕ
line_length = position_or_len feed

-- the length where no line feed stands
pub found : (r : List ℕ) → unwrap_or (position feed r) (length r) ≡ line_length r
found r = let h = prefix_len-le-length (λ b. not (feed b)) r in grind (arith, common_steps)

unbroken : (r : List ℕ) → Unbroken (take (line_length r) r)
unbroken [] = tt
unbroken (c ∷ r) = go (feed c) (λ e q. true≢false (sym ((Decides-eqb c (byte "\n")).1 q) ∙ e)) (unbroken r)
  where
    go : (b : Bool) → (b ≡ false → c ≡ byte "\n" → ⊥) → Unbroken (take (line_length r) r)
        → Unbroken (take (cond (not b) (1 + line_length r) 0) (c ∷ r))
    go true h u = tt
    go false h u =
        let e : suc (line_length r) ≡ 1 + line_length r = omega arith in
        subst (λ (n : ℕ). Unbroken (take n (c ∷ r))) e (h refl, u)

ended : (r : List ℕ) → Ended (drop (line_length r) r)
ended [] = tt
ended (c ∷ r) = go (feed c) (Decides-eqb c (byte "\n")).0 (ended r)
  where
    go : (b : Bool) → (b ≡ true → c ≡ byte "\n") → Ended (drop (line_length r) r)
        → Ended (drop (cond (not b) (1 + line_length r) 0) (c ∷ r))
    go true h u = h refl
    go false h u =
        let e : suc (line_length r) ≡ 1 + line_length r = omega arith in subst (λ (n : ℕ). Ended (drop n (c ∷ r))) e u

-- it is a line
pub line_at : (s r : List ℕ) (a n : ℕ) → r ≡ drop a s → n ≡ line_length r → IsLine s a (take n r)
line_at s r a n e k =
    let l : length (take n r) ≡ n = ap (λ i. length (take i r)) k ∙ (length-prefix_len (λ b. not (feed b)) r ∙ sym k) in
    let m : a + length (take n r) ≡ a + n = omega arith in
    let d : drop n r ≡ drop (a + length (take n r)) s = ap (drop n) e ∙ (drop-drop n a s ∙ ap (λ i. drop i s) (sym m)) in
    record {
      text = sym e ∙ (sym (take-append-drop n r) ∙ ap (λ t. take n r ++ t) d);
      unbroken = subst (λ (i : ℕ). Unbroken (take i r)) (sym k) (unbroken r);
      ended = subst Ended (ap (λ i. drop i r) (sym k) ∙ d) (ended r);
      within = λ h. omega (arith, prefix_len-le-length (λ b. not (feed b)) r, ap length e, length-drop a s);
    }
