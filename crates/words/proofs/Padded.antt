-- Live words and zeros behind them: words put in among the live ones, a member put among members, members dropped.
-- Assumes nothing.
use Prim.Native.Nat.{ℕ, ◌+◌, ◌*◌, ◌-◌, ◌≤◌}
use native.Mathlib.Numerals.{add-one}
use native.Mathlib.Omega.{arith}
use mathlib.Core.Path.{◌≡◌, sym, ap, ◌∙◌}
use mathlib.Core.Bool.{Bool}
use mathlib.Core.List.{List, [], ◌∷◌, ◌++◌, append_assoc}
use native.Mathlib.Nat.{add-zero, suc-mul, mul-le-mul_right}
use lib.ListN.{length, take, drop, replicate, length-append, length-drop, length-replicate, replicate-append-replicate}
use lib.Seq.{length-take-le}
use Rattle.meaning.specs.Sets.{keep, put}
use Rattle.meaning.specs.Members.{Has, Ascending}
use Rattle.theorems.specs.Members.{keep_length}
use Rattle.words.specs.Words.{closed, inserted, shrunk, pad}
use Rattle.words.specs.Rows.{rank_of, flat, Strides}
use Rattle.words.proofs.Over.{inserted_parts, shrunk_parts}
use Rattle.words.proofs.Flat.{rank_high, put_new, flat_length}
use Rattle.words.proofs.Tables.{put_inserted}

-- as many words as asked for
pub pad-length : (n : ℕ) (w : List ℕ) → length w ≤ n → length (pad n w) ≡ n
pad-length n w h = simp (length-append, length-replicate) (omega arith)

-- zeros: the first k, and the others
zeros_split : (n k live : ℕ) → live + k ≤ n
    → ◌≡◌ {A = List ℕ} (replicate (n - live) 0) (replicate k 0 ++ replicate (n - (live + k)) 0)
zeros_split n k live h =
    let e : n - live ≡ k + (n - (live + k)) = omega arith in
    rw e (sym (replicate-append-replicate k (n - (live + k)) 0))

-- as many zeros as there is room behind the live words
pad-is : (n live : ℕ) (L : List ℕ) → length L ≡ live → pad n L ≡ L ++ replicate (n - live) 0
pad-is n live L e = rw e

pad-parts : (n live : ℕ) (X B C : List ℕ) → length X + length B + length C ≡ live
    → pad n (X ++ (B ++ C)) ≡ X ++ (B ++ (C ++ replicate (n - live) 0))
pad-parts n live X B C h =
    let l : length (X ++ (B ++ C)) ≡ live = simp length-append (omega arith) in
    pad-is n live (X ++ (B ++ C)) l ∙ simp append_assoc

-- the same, where k more words have room
pad-room : (n k live : ℕ) (X B C : List ℕ) → length X + length B + length C ≡ live → live + k ≤ n
    → pad n (X ++ (B ++ C)) ≡ X ++ (B ++ (C ++ (replicate k 0 ++ replicate (n - (live + k)) 0)))
pad-room n k live X B C h f = pad-parts n live X B C h ∙ ap (λ z. X ++ (B ++ (C ++ z))) (zeros_split n k live f)

-- Words put in.
pub inserted_pad : (n at live : ℕ) (X B new : List ℕ) → length X ≡ at → at + length B ≡ live → live + length new ≤ n
    → inserted live at new (pad n (X ++ B)) ≡ pad n (X ++ (new ++ B))
inserted_pad n at live X B new e f h =
    ap (inserted live at new) (pad-room n (length new) live X [] B (omega arith) h)
    ∙ (inserted_parts X B (replicate (length new) 0) (replicate (n - (live + length new)) 0) new at live e f
    (length-replicate (length new) 0)
    ∙ sym (pad-parts n (live + length new) X new B (omega arith)))

-- Words in the place of more, and the rest closed up to them.
shrunk_pad : (n to from live d : ℕ) (X B C new : List ℕ) → length X ≡ to → to + length B ≡ from → from + length C ≡ live → live ≤ n
    → length new + d ≡ length B → shrunk 0 live from to new (pad n (X ++ (B ++ C))) ≡ pad n (X ++ (new ++ C))
shrunk_pad n to from live d X B C new x f l h k =
    let e : length B - length new ≡ d = omega arith in
    let g : live - d + d ≡ live = omega arith in
    ap (shrunk 0 live from to new) (pad-parts n live X B C (omega arith))
    ∙ (shrunk_parts 0 X B C (replicate (n - live) 0) new to from live x f l (omega arith)
    ∙ rw e (sym (rw g at (pad-room n d (live - d) X new C (omega arith) (omega arith)))))

-- Words taken out, and the rest closed up.
pub closed-pad : (n to from live : ℕ) (X B C : List ℕ) → length X ≡ to → to + length B ≡ from → from + length C ≡ live → live ≤ n
    → closed 0 live from to (pad n (X ++ (B ++ C))) ≡ pad n (X ++ C)
unfolding closed shrunk
closed-pad n to from live X B C x f l h = rw (add-zero to) at (shrunk_pad n to from live (length B) X B C [] x f l h (omega arith))

-- A new member makes one more.
pub put_more : {A : Type 0} (number : A → ℕ) (a : A) (xs : List A) → Ascending number xs → (Has number (number a) xs → ⊥)
    → length (put number a xs) ≡ length xs + 1
put_more number a xs s n =
    let r : ℕ = rank_of number (number a) xs in
    let h : r ≤ length xs = rank_high number (number a) xs in
    rw (put_new number a xs s n, length-append (take r xs) (a ∷ drop r xs), length-take-le r xs h, length-drop r xs) (omega arith)

module _ {A : Type 0} (w : ℕ) (row : A → List ℕ) (number : A → ℕ) (S : Strides w row number) where
  -- A new member's row put in.
  pub put_pad : (n from r at live : ℕ) (X B : List ℕ) (a : A) (xs : List A) → Ascending number xs → (Has number (number a) xs → ⊥)
      → length X ≡ from → r ≡ rank_of number (number a) xs → at ≡ from + r * w → live ≡ from + length xs * w + length B → live + w ≤ n
      → inserted live at (row a) (pad n (X ++ (flat row xs ++ B))) ≡ pad n (X ++ (flat row (put number a xs) ++ B))
  put_pad n from r at live X B a xs s o x q p l h =
      let i = flat_length w row number S xs in
      let j = flat_length w row number S (put number a xs) in
      let b : length (put number a xs) * w ≡ length xs * w + w =
      ap (λ (k : ℕ). k * w) (put_more number a xs s o ∙ add-one (length xs)) ∙ suc-mul (length xs) w in
      ap (inserted live at (row a)) (pad-room n w live X (flat row xs) B (omega arith) h)
      ∙ (put_inserted w row number S X B (replicate w 0) (replicate (n - (live + w)) 0) a xs from r at live s o x q p l
      (length-replicate w 0)
      ∙ sym (pad-parts n (live + w) X (flat row (put number a xs)) B (omega arith)))

  -- Members dropped, and the rest closed up to those kept.
  pub keep_pad : (n to from live : ℕ) (X C : List ℕ) (q : A → Bool) (xs : List A)
      → length X ≡ to → to + length xs * w ≡ from → from + length C ≡ live → live ≤ n
      → shrunk 0 live from to (flat row (keep q xs)) (pad n (X ++ (flat row xs ++ C))) ≡ pad n (X ++ (flat row (keep q xs) ++ C))
  keep_pad n to from live X C q xs x f l h =
      let i = flat_length w row number S xs in
      let j = flat_length w row number S (keep q xs) in
      let o : length (keep q xs) * w ≤ length xs * w = mul-le-mul_right w (keep_length q xs) in
      shrunk_pad n to from live (length xs * w - length (keep q xs) * w) X (flat row xs) C (flat row (keep q xs)) x (omega arith) l h
      (omega arith)
