-- What the code over the tables cites: the steps composed, on a table in parts. X stands before the rows in question, B or C behind
-- them up to the
-- last live word, Z is room, Y the rest.
-- Assumes nothing.
use Prim.Native.Nat.{ℕ, ◌+◌, ◌*◌, ◌-◌, ◌≤◌}
use mathlib.Core.Path.{◌≡◌, refl, sym, ap, ◌∙◌}
use mathlib.Core.Bool.{Bool}
use mathlib.Core.List.{List, [], ◌∷◌, ◌++◌, append_assoc}
use native.Mathlib.Nat.{mul-le-mul_right}
use native.Mathlib.Omega.{arith}
use lib.ListN.{length, take, drop, set, replicate, length-append, take-append-drop}
use lib.Seq.{length-take-le}
use Rattle.meaning.specs.Sets.{keep, put}
use Rattle.meaning.specs.Members.{Has, Ascending, own}
use Rattle.theorems.specs.Members.{keep_length}
use Rattle.words.specs.Words.{opened, closed, inserted, shrunk}
use Rattle.words.specs.Rows.{rank_of, flat, Strides, Kept}
use Rattle.words.proofs.Over.{over-one, over-then, opened_length, open_write, keep_close, inserted_parts, shrunk_parts}
use Rattle.words.proofs.Flat.{rank_high, put_new, alone, flat_own, strides_own, flat_append, flat_between, flat_length}

-- Opened by one place, and a word stored there.
pub open_one : (live at x : ℕ) (t : List ℕ) → at ≤ live → live + 1 ≤ length t → set (opened live at 1 t) at x ≡ inserted live at (x ∷ []) t
open_one live at x t h k =
    let l = opened_length live at t h 1 k in
    over-one at (opened live at 1 t) x (omega arith) ∙ open_write live at t h (x ∷ []) k

-- What two runs of rows keep, one behind another: the second is kept from where the first ended.
pub kept_then : (to m n r s : ℕ) (K L t t₁ t₂ : List ℕ) → to ≤ length t → Kept to m K t r t₁ → Kept r n L t₁ s t₂
    → Kept to (m + n) (K ++ L) t s t₂
kept_then to m n r s K L t t₁ t₂ h P Q =
    let a = P.next in
    let b = Q.next in
    record {
      next = simp length-append (omega arith);
      low = omega (arith, P.low, Q.low);
      high = omega (arith, P.high, Q.high);
      table = Q.table ∙ rw (P.table, a) (over-then to K t h L);
    }

-- Rows kept, then the rest closed up to them: r is the place behind what was kept, and the rest begins at `from`.
pub kept_closed : (live from to m r : ℕ) (K t t₁ t₂ : List ℕ) → r ≤ from → from ≤ live → live ≤ length t → Kept to m K t r t₁
    → t₂ ≡ closed 0 live from r t₁ → t₂ ≡ shrunk 0 live from to K t
kept_closed live from to m r K t t₁ t₂ h k l P e =
    let a = P.next in
    e ∙ rw (P.table, a) (keep_close 0 live from to K t (omega arith) k l)

module _ {A : Type 0} (w : ℕ) (row : A → List ℕ) (number : A → ℕ) (S : Strides w row number) where
  -- A new member's row put in at its rank is `put`.
  pub put_inserted : (X B Z Y : List ℕ) (a : A) (xs : List A) (from r at live : ℕ) → Ascending number xs → (Has number (number a) xs → ⊥)
      → length X ≡ from → r ≡ rank_of number (number a) xs → at ≡ from + r * w → live ≡ from + length xs * w + length B → length Z ≡ w
      → inserted live at (row a) (X ++ (flat row xs ++ (B ++ (Z ++ Y)))) ≡ X ++ (flat row (put number a xs) ++ (B ++ Y))
  put_inserted X B Z Y a xs from r at live s n x q p l z =
      let P : List ℕ = flat row (take r xs) in
      let Q : List ℕ = flat row (drop r xs) in
      let h : r ≤ length xs = omega (arith, rank_high number (number a) xs) in
      let i : length (take r xs) ≡ r = length-take-le r xs h in
      let j : length P ≡ r * w = flat_length w row number S (take r xs) ∙ ap (λ (k : ℕ). k * w) i in
      let e : flat row xs ≡ P ++ Q =
      ap (λ (l : List A). flat row l) (sym (take-append-drop r xs)) ∙ flat_append w row number S (take r xs) (drop r xs) in
      let m : length P + length Q ≡ length xs * w = sym (length-append P Q) ∙ ap (λ (l : List ℕ). length l) (sym e) ∙ flat_length w
      row number S xs in
      let u : put number a xs ≡ take r xs ++ a ∷ drop r xs = rw q (put_new number a xs s n) in
      let v : flat row (put number a xs) ≡ P ++ (row a ++ Q) = ap (λ (l : List A). flat row l) u ∙ flat_between w row number S
      (take r xs) a (drop r xs) in
      let f : length (X ++ P) ≡ at = simp length-append (omega arith) in
      let g : at + length (Q ++ B) ≡ live = simp length-append (omega arith) in
      let t : X ++ (flat row xs ++ (B ++ (Z ++ Y))) ≡ (X ++ P) ++ ((Q ++ B) ++ (Z ++ Y)) = rw e (simp append_assoc) in
      rw (t, v) (inserted_parts (X ++ P) (Q ++ B) Z Y (row a) at live f g (z ∙ sym (S.wide a)) ∙ simp append_assoc)

  -- The rows of fewer members in the place of all, then the rest closed up to them, with zeros behind.
  pub keep_shrunk : (X C Y : List ℕ) (q : A → Bool) (xs : List A) (to from live : ℕ)
      → length X ≡ to → to + length xs * w ≡ from → from + length C ≡ live
      → shrunk 0 live from to (flat row (keep q xs)) (X ++ (flat row xs ++ (C ++ Y)))
      ≡ X ++ (flat row (keep q xs) ++ (C ++ (replicate (length xs * w - length (keep q xs) * w) 0 ++ Y)))
  keep_shrunk X C Y q xs to from live x f l =
      let a = flat_length w row number S xs in
      let b = flat_length w row number S (keep q xs) in
      let h : length (keep q xs) * w ≤ length xs * w = mul-le-mul_right w (keep_length q xs) in
      let d : length (flat row xs) - length (flat row (keep q xs)) ≡ length xs * w - length (keep q xs) * w = omega arith in
      rw (← d) (shrunk_parts 0 X (flat row xs) C Y (flat row (keep q xs)) to from live x (omega arith) l (omega arith))

-- A new mark put in at its rank is `put`: marks are their own rows.
pub mark_inserted : (X B Y : List ℕ) (i z : ℕ) (xs : List ℕ) (from r live : ℕ) → Ascending own xs → (Has own i xs → ⊥)
    → length X ≡ from → r ≡ rank_of own i xs → live ≡ from + length xs + length B
    → inserted live (from + r) (i ∷ []) (X ++ (xs ++ (B ++ z ∷ Y))) ≡ X ++ (put own i xs ++ (B ++ Y))
mark_inserted X B Y i z xs from r live s n x q l =
    let e = put_inserted 1 alone own strides_own X B (z ∷ []) Y i xs from r (from + r) live s n x q (omega arith) (omega arith) refl in
    rw (flat_own xs, flat_own (put own i xs)) at e

-- Fewer marks in the place of all, then the rest closed up to them, with zeros behind.
pub marks_shrunk : (X C Y : List ℕ) (q : ℕ → Bool) (xs : List ℕ) (to from live : ℕ)
    → length X ≡ to → to + length xs ≡ from → from + length C ≡ live
    → shrunk 0 live from to (keep q xs) (X ++ (xs ++ (C ++ Y)))
    ≡ X ++ (keep q xs ++ (C ++ (replicate (length xs - length (keep q xs)) 0 ++ Y)))
marks_shrunk X C Y q xs to from live x f l = shrunk_parts 0 X xs C Y (keep q xs) to from live x f l (keep_length q xs)
