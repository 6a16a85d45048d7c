-- Rows of w words: what a row more does to those kept, counted and ranked, and the loops over rows. Marks are rows of one word:
-- `rows_one`, `rank_one`.
-- Assumes nothing.
use Prim.Native.Nat.{ℕ, zero, suc, ◌+◌, ◌*◌, ◌-◌, ◌≤◌, ◌<◌}
use mathlib.Core.Path.{◌≡◌, refl, sym, ap, ◌∙◌}
use mathlib.Core.Bool.{Bool, true, false, cond}
use mathlib.Core.List.{List, [], ◌∷◌, ◌++◌, append_assoc, append-nil}
use native.Mathlib.Nat.{suc-mul, zero-mul, add_comm, mul-le-mul_right}
use native.Mathlib.Numerals.{add-one}
use native.Mathlib.Omega.{arith}
use borrow.Author.Tests.{lt-ltb, le-ltb}
use lib.ListN.{length, take, drop, get_or, set, length-append, length-set}
use lib.Seq.{drop-drop, get_or-drop}
use Rattle.meaning.specs.Sets.{keep}
use Rattle.meaning.specs.Members.{own}
use Rattle.words.specs.Words.{run, over_at}
use Rattle.words.specs.Rows.{keep_rows, rank_rows, rank_of, Kept, Ranked}
use Rattle.words.proofs.Moves.{within_over, Lowering}
use Rattle.words.proofs.Over.{run_length, over_none, over-run, over_above, over-then}

more : (i w : ℕ) → (i + 1) * w ≡ i * w + w
more i w = rw (add-one i) (suc-mul i w)

-- a row before the last ends before the end
pub row_in : (i n w : ℕ) → i < n → i * w + w ≤ n * w
row_in i n w h =
    let m : suc i * w ≤ n * w = mul-le-mul_right w h in
    omega (arith, suc-mul i w)

-- the row at i, if it is kept
last : ℕ → (ℕ → Bool) → ℕ → List ℕ → List ℕ
last w p i xs = cond (p (get_or xs (i * w) 0)) (take w (drop (i * w) xs)) []

rows_cond : (b : Bool) (a r s : List ℕ) → cond b (a ++ (r ++ s)) (r ++ s) ≡ cond b (a ++ r) r ++ s
rows_cond true a r s = sym (append_assoc a r s)
rows_cond false a r s = refl

rows_more : (w : ℕ) (p : ℕ → Bool) (i : ℕ) (xs : List ℕ) → keep_rows w p (suc i) xs ≡ keep_rows w p i xs ++ last w p i xs
unfolding keep_rows last
rows_more w p zero xs = rw (zero-mul w) (one (p (get_or xs 0 0)) (take w xs))
  where
    one : (b : Bool) (a : List ℕ) → cond b (a ++ []) [] ≡ cond b a []
    one true a = append-nil a
    one false a = refl
rows_more w p (suc i) xs =
    let e : suc i * w ≡ w + i * w = suc-mul i w ∙ add_comm (i * w) w in
    let q : last w p i (drop w xs) ≡ last w p (suc i) xs = rw (e, get_or-drop w xs (i * w) 0, drop-drop (i * w) w xs) refl in
    ap (λ (l : List ℕ). cond (p (get_or xs 0 0)) (take w xs ++ l) l)
    (rows_more w p i (drop w xs) ∙ ap (λ (l : List ℕ). keep_rows w p i (drop w xs) ++ l) q)
    ∙ rows_cond (p (get_or xs 0 0)) (take w xs) (keep_rows w p i (drop w xs)) (last w p (suc i) xs)

-- the same of the rows of a table from `from` on
module _ (w : ℕ) (p : ℕ → Bool) (from i at : ℕ) (t : List ℕ) (e : at ≡ from + i * w) where
  pub rows_yes : p (get_or t at 0) ≡ true → keep_rows w p (i + 1) (drop from t) ≡ keep_rows w p i (drop from t) ++ run at w t
  unfolding last run
  rows_yes y =
      let f : p (get_or (drop from t) (i * w) 0) ≡ true = rw (get_or-drop from t (i * w) 0, ← e) y in
      rw (add-one i) (rows_more w p i (drop from t) ∙ rw (f, drop-drop (i * w) from t, e))

  pub rows_no : p (get_or t at 0) ≡ false → keep_rows w p (i + 1) (drop from t) ≡ keep_rows w p i (drop from t)
  unfolding last
  rows_no y =
      let f : p (get_or (drop from t) (i * w) 0) ≡ false = rw (get_or-drop from t (i * w) 0, ← e) y in
      rw (add-one i) (rows_more w p i (drop from t) ∙ rw f (append-nil (keep_rows w p i (drop from t))))

-- Marks are rows of one word.

pub rows_one : (p : ℕ → Bool) (n : ℕ) (xs : List ℕ) → n ≤ length xs → keep_rows 1 p n xs ≡ keep p (take n xs)
unfolding keep_rows keep
rows_one p zero xs h = refl
rows_one p (suc n) [] h = absurd (omega arith)
rows_one p (suc n) (x ∷ xs) h = rw (rows_one p n xs (omega arith))

pub rank_one : (i n : ℕ) (xs : List ℕ) → n ≤ length xs → rank_rows 1 i n xs ≡ rank_of own i (take n xs)
unfolding rank_rows rank_of
rank_one i zero xs h = refl
rank_one i (suc n) [] h = absurd (omega arith)
rank_one i (suc n) (x ∷ xs) h = rw (rank_one i n xs (omega arith))

-- Keeping: i rows have been tried, and those kept stand from `to` up to o.

pub record Keeping (w : ℕ) (p : ℕ → Bool) (from to i o : ℕ) (t₀ t : List ℕ) : Type 0 where
  pub next : o ≡ to + length (keep_rows w p i (drop from t₀))
  pub low : to ≤ o
  pub high : o ≤ to + i * w
  pub len : length t ≡ length t₀
  pub is : t ≡ over_at to (keep_rows w p i (drop from t₀)) t₀

pub keeping_start : (w : ℕ) (p : ℕ → Bool) (from to : ℕ) (t : List ℕ) → Keeping w p from to 0 to t t
unfolding keep_rows
keeping_start w p from to t =
    record { next = omega arith; low = omega arith; high = omega arith; len = refl; is = sym (over_none to t) }

module _ (w : ℕ) (p : ℕ → Bool) (from to i o at : ℕ) (t₀ t : List ℕ) (h : to ≤ from) (e : at ≡ from + i * w) (k : at + w ≤ length t₀)
    (K : Keeping w p from to i o t₀ t) where
  kept : List ℕ
  kept = keep_rows w p i (drop from t₀)

  pub keeping_read : get_or t at 0 ≡ get_or t₀ at 0
  keeping_read =
      let n = K.next in
      let g = K.high in
      rw K.is (over_above to (keep_rows w p i (drop from t₀)) t₀ (omega arith) at 0 (omega arith))

  pub keeping_no : p (get_or t at 0) ≡ false → Keeping w p from to (i + 1) o t₀ t
  keeping_no y =
      let r = rows_no w p from i at t₀ e (rw keeping_read at y) in
      let g = K.high in
      let m = more i w in
      record { next = rw r K.next; low = K.low; high = omega arith; len = K.len; is = rw r K.is }

  -- the row is copied down to o
  pub keeping_yes : p (get_or t at 0) ≡ true → (t' : List ℕ) (j : ℕ) → j ≡ w → Lowering at o j t t' → Keeping w p from to (i + 1) (o + w) t₀ t'
  keeping_yes y t' j u L =
      let r = rows_yes w p from i at t₀ e (rw keeping_read at y) in
      let n = K.next in
      let g = K.high in
      let f = K.low in
      let m = more i w in
      let X : List ℕ = keep_rows w p i (drop from t₀) in
      let c : length (run at w t₀) ≡ w = run_length at w t₀ k in
      let d : run at w t ≡ run at w t₀ = rw K.is (over-run to X t₀ (omega arith) at w (omega arith)) in
      record {
        next = rw r (simp length-append (omega arith));
        low = omega arith;
        high = omega arith;
        len = L.len ∙ K.len;
        is = rw r (rw u at L.is ∙ (within_over at w (at + w) o t refl (omega arith) ∙ rw (d, K.is, n) (over-then to X t₀ (omega arith) (run at w t₀))));
      }

-- marks kept
pub kept_marks : (p : ℕ → Bool) (from to n r : ℕ) (t t' : List ℕ) → from + n ≤ length t
    → Kept to (n * 1) (keep_rows 1 p n (drop from t)) t r t' → Kept to n (keep p (run from n t)) t r t'
unfolding run
kept_marks p from to n r t t' h K =
    let l = lib.ListN.length-drop from t in
    let e = rows_one p n (drop from t) (omega arith) in
    record { next = rw e at K.next; low = K.low; high = omega (arith, K.high); table = rw e at K.table }

-- Counting: i rows have been tried, r of which aren't kept.

pub record Counting (w : ℕ) (p : ℕ → Bool) (from i r : ℕ) (t : List ℕ) : Type 0 where
  pub high : r ≤ i
  pub is : r * w + length (keep_rows w p i (drop from t)) ≡ i * w

pub counting_start : (w : ℕ) (p : ℕ → Bool) (from : ℕ) (t : List ℕ) → Counting w p from 0 0 t
unfolding keep_rows
counting_start w p from t = record { high = omega arith; is = omega (arith, zero-mul w) }

module _ (w : ℕ) (p : ℕ → Bool) (from i r at : ℕ) (t : List ℕ) (e : at ≡ from + i * w) (k : at + w ≤ length t)
    (C : Counting w p from i r t) where
  pub counting_no : p (get_or t at 0) ≡ false → Counting w p from (i + 1) (r + 1) t
  counting_no y =
      let g = C.high in
      let s = C.is in
      record { high = omega arith; is = rw (rows_no w p from i at t e y) (omega (arith, more i w, more r w)) }

  pub counting_yes : p (get_or t at 0) ≡ true → Counting w p from (i + 1) r t
  counting_yes y =
      let g = C.high in
      let s = C.is in
      let c : length (run at w t) ≡ w = run_length at w t k in
      record { high = omega arith; is = rw (rows_yes w p from i at t e y) (simp length-append (omega (arith, more i w))) }

-- marks counted
pub counted_marks : (p : ℕ → Bool) (from n r : ℕ) (t : List ℕ) → from + n ≤ length t
    → r * 1 + length (keep_rows 1 p n (drop from t)) ≡ n * 1 → r + length (keep p (run from n t)) ≡ n
unfolding run
counted_marks p from n r t h e =
    let l = lib.ListN.length-drop from t in
    let q : r * 1 + length (keep p (take n (drop from t))) ≡ n * 1 = rw (rows_one p n (drop from t) (omega arith)) at e in
    omega arith

-- Ranking: the first i of n rows have a smaller id.

pub record Ranking (w id from n i : ℕ) (t : List ℕ) : Type 0 where
  pub high : i ≤ n
  pub is : rank_rows w id n (drop from t) ≡ i + rank_rows w id (n - i) (drop (from + i * w) t)

pub ranking_start : (w id from n : ℕ) (t : List ℕ) → Ranking w id from n 0 t
ranking_start w id from n t =
    let z : from + 0 * w ≡ from = omega (arith, zero-mul w) in
    let s : n - 0 ≡ n = omega arith in
    record { high = omega arith; is = rw (z, s) (omega arith) }

module _ (w id from n i at : ℕ) (t : List ℕ) (e : at ≡ from + i * w) (h : i < n) (R : Ranking w id from n i t) where
  first : get_or (drop (from + i * w) t) 0 0 ≡ get_or t at 0
  first =
      let z : from + i * w + 0 ≡ at = omega arith in
      rw (get_or-drop (from + i * w) t 0 0, z)

  left : n - i ≡ suc (n - (i + 1))
  left = omega arith

  pub ranking_stops : id ≤ get_or t at 0 → Ranked n (rank_rows w id n (drop from t)) i
  unfolding rank_rows
  ranking_stops q =
      let f : get_or (drop (from + i * w) t) 0 0 ≡ get_or t at 0 = first in
      let s : n - i ≡ suc (n - (i + 1)) = left in
      let z : rank_rows w id (n - i) (drop (from + i * w) t) ≡ 0 = rw (s, rank_rows, f, le-ltb (get_or t at 0) id q) in
      record { is = omega (arith, R.is); high = omega arith }

  pub ranking_goes : get_or t at 0 < id → Ranking w id from n (i + 1) t
  unfolding rank_rows
  ranking_goes q =
      let f : get_or (drop (from + i * w) t) 0 0 ≡ get_or t at 0 = first in
      let s : n - i ≡ suc (n - (i + 1)) = left in
      let d : from + i * w + w ≡ from + (i + 1) * w = omega (arith, more i w) in
      let z : rank_rows w id (n - i) (drop (from + i * w) t) ≡ suc (rank_rows w id (n - (i + 1)) (drop (from + (i + 1) * w) t)) =
      rw (s, rank_rows, f, lt-ltb (get_or t at 0) id q, drop-drop w (from + i * w) t, d) in
      record { high = omega arith; is = omega (arith, R.is) }

pub ranking_ends : (w id from n i : ℕ) (t : List ℕ) → n ≤ i → Ranking w id from n i t → Ranked n (rank_rows w id n (drop from t)) n
unfolding rank_rows
ranking_ends w id from n i t h R =
    let s : n - i ≡ 0 = omega arith in
    let z : rank_rows w id (n - i) (drop (from + i * w) t) ≡ 0 = rw s in
    record { is = omega (arith, R.is, R.high); high = omega arith }

-- marks ranked
pub ranked_marks : (id from n r : ℕ) (t : List ℕ) → from + n ≤ length t → Ranked n (rank_rows 1 id n (drop from t)) r
    → Ranked n (rank_of own id (run from n t)) r
unfolding run
ranked_marks id from n r t h R =
    let l = lib.ListN.length-drop from t in
    record { is = rw (rank_one id n (drop from t) (omega arith)) at R.is; high = R.high }
