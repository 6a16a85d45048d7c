-- The rules of a sheet, row by row: each row fits behind those before it. And where the place that a row hangs under, and the one that
-- hangs there before it, stand among them.
-- Assumes nothing.
use Rattle.std.specs.Prelude.{ℕ, suc, ◌≤◌, ◌<◌, ◌≡◌, refl}
use Rattle.std.proofs.Common.{arith, ◌∙◌, lt-ltb, le-ltb}
use mathlib.Core.List.{List, [], ◌∷◌, ◌++◌, reverse_aux, reverse_aux-append}
use Rattle.meaning.specs.Places.{Place, place, Children, childless, child, Elements, empty, element}
use Rattle.meaning.specs.Members.{All, Has, own}
use Rattle.meaning.specs.Valid.{ValidKey}
use Rattle.meaning.specs.Sheet.{Spot, in_map, in_list, Row, row_of, rows, rows_children, rows_elements}
use Rattle.meaning.specs.Load.{Parent, root, under, parent, eldest, behind, elder, last_depth, Seen, HasBranch, Follows}
use Rattle.meaning.specs.Sound.{Own}
use Rattle.theorems.specs.Rows.{row_depth}

-- the ids that may mark what hangs under a place
abbrev pub Holder : List ℕ → Parent → ℕ → Type 0
Holder s root j = Seen s j
Holder s (under r) j = Has own j r.marks

abbrev pub KeyOf : Spot → Type 0
KeyOf (in_map k) = ValidKey k
KeyOf (in_list i) = Unit {0}

-- what is asked of a row with its marks and values, behind the rows rs, the newest first (limits and element ids apart)
pub record RowRule (s : List ℕ) (r : Row) (rs : List Row) : Type 0 where
  pub low : 1 ≤ r.depth
  pub high : r.depth ≤ 8
  pub step : r.depth ≤ suc (last_depth rs)
  pub branch : HasBranch (parent r.depth rs) r.spot
  pub order : Follows (elder r.depth rs) r.spot
  pub key : KeyOf r.spot
  pub owns : Own (Holder s (parent r.depth rs)) r.marks r.values

-- each row fits behind those before it: the newest first; and in the sheet's order, behind rs
abbrev pub Fit : List ℕ → List Row → Type 0
Fit s [] = Unit {0}
Fit s (r ∷ rs) = RowRule s r rs × Fit s rs

abbrev pub FitOn : List ℕ → List Row → List Row → Type 0
FitOn s rs [] = Unit {0}
FitOn s rs (x ∷ xs) = RowRule s x rs × FitOn s (x ∷ rs) xs

pub fit_append : (s : List ℕ) (xs ys rs : List Row) → FitOn s rs xs → FitOn s (reverse_aux xs rs) ys → FitOn s rs (xs ++ ys)
fit_append s [] ys rs h k = k
fit_append s (x ∷ xs) ys rs h k = (h.0, fit_append s xs ys (x ∷ rs) h.1 k)

-- The parent and the elder.

pub parent_here : (n : ℕ) (r : Row) (rs : List Row) → r.depth < n → parent n (r ∷ rs) ≡ under r
unfolding parent
parent_here n r rs h = rw (lt-ltb r.depth n h, parent)

parent_past : (n : ℕ) (r : Row) (rs : List Row) → n ≤ r.depth → parent n (r ∷ rs) ≡ parent n rs
unfolding parent
parent_past n r rs h = rw (le-ltb r.depth n h, parent)

pub elder_none : (n : ℕ) (r : Row) (rs : List Row) → r.depth < n → elder n (r ∷ rs) ≡ eldest
unfolding elder
elder_none n r rs h = rw (lt-ltb r.depth n h, elder)

pub elder_here : (n : ℕ) (r : Row) (rs : List Row) → r.depth ≡ n → elder n (r ∷ rs) ≡ behind r
unfolding elder
elder_here n r rs h = rw (le-ltb r.depth n (omega arith), elder, le-ltb n r.depth (omega arith))

elder_past : (n : ℕ) (r : Row) (rs : List Row) → n < r.depth → elder n (r ∷ rs) ≡ elder n rs
unfolding elder
elder_past n r rs h = rw (le-ltb r.depth n (omega arith), elder, lt-ltb n r.depth h)

-- all of depth n at least
abbrev pub Deep : ℕ → List Row → Type 0
Deep n xs = All (λ r. n ≤ r.depth) xs

pub parent-over : (n : ℕ) (xs rs : List Row) → Deep n xs → parent n (reverse_aux xs rs) ≡ parent n rs
parent-over n [] rs d = refl
parent-over n (x ∷ xs) rs d = parent-over n xs (x ∷ rs) d.1 ∙ parent_past n x rs d.0

pub elder-over : (n : ℕ) (xs rs : List Row) → Deep (suc n) xs → elder n (reverse_aux xs rs) ≡ elder n rs
elder-over n [] rs d = refl
elder-over n (x ∷ xs) rs d = elder-over n xs (x ∷ rs) d.1 ∙ elder_past n x rs d.0

pub last-over : (n : ℕ) (xs rs : List Row) → Deep n xs → n ≤ last_depth rs → n ≤ last_depth (reverse_aux xs rs)
last-over n [] rs d h = h
last-over n (x ∷ xs) rs d h = last-over n xs (x ∷ rs) d.1 d.0

-- The rows under a place with children of depth n.

deep_append : (n : ℕ) (xs ys : List Row) → Deep n xs → Deep n ys → Deep n (xs ++ ys)
deep_append n [] ys h k = k
deep_append n (x ∷ xs) ys h k = (h.0, deep_append n xs ys h.1 k)

pub deep_less : (n : ℕ) (xs : List Row) → Deep (suc n) xs → Deep n xs
deep_less n [] h = tt
deep_less n (x ∷ xs) h = (omega (arith, h.0), deep_less n xs h.1)

mutual
  unfolding rows

  pub deep_rows : (c : Place) (n : ℕ) → Deep n (rows n c)
  deep_rows (place m l ms vs ks es) n = deep_append n (rows_children n ks) (rows_elements n es) (deep_children ks n) (deep_elements es n)

  pub deep_children : (ks : Children) (n : ℕ) → Deep n (rows_children n ks)
  deep_children childless n = tt
  deep_children (child k c ks) n = (
    omega (arith, row_depth n (in_map k) c),
    deep_append n (rows (suc n) c) (rows_children n ks) (deep_less n (rows (suc n) c) (deep_rows c (suc n))) (deep_children ks n),
  )

  pub deep_elements : (es : Elements) (n : ℕ) → Deep n (rows_elements n es)
  deep_elements empty n = tt
  deep_elements (element i c es) n = (
    omega (arith, row_depth n (in_list i) c),
    deep_append n (rows (suc n) c) (rows_elements n es) (deep_less n (rows (suc n) c) (deep_rows c (suc n))) (deep_elements es n),
  )

-- the rows of a place and what hangs under it, read on top of rs
abbrev pub on_top : ℕ → Spot → Place → List Row → List Row
on_top n p c rs = reverse_aux (rows (suc n) c) (row_of n p c ∷ rs)

-- behind such a block a row of depth n has the same parent, the block's place for its elder, and may stand
pub block_parent : (n : ℕ) (p : Spot) (c : Place) (rs : List Row) → parent n (on_top n p c rs) ≡ parent n rs
block_parent n p c rs =
    parent-over n (rows (suc n) c) (row_of n p c ∷ rs) (deep_less n (rows (suc n) c) (deep_rows c (suc n)))
    ∙ parent_past n (row_of n p c) rs (omega (arith, row_depth n p c))

pub block_elder : (n : ℕ) (p : Spot) (c : Place) (rs : List Row) → elder n (on_top n p c rs) ≡ behind (row_of n p c)
block_elder n p c rs =
    elder-over n (rows (suc n) c) (row_of n p c ∷ rs) (deep_rows c (suc n)) ∙ elder_here n (row_of n p c) rs (row_depth n p c)

pub block_last : (n : ℕ) (p : Spot) (c : Place) (rs : List Row) → n ≤ last_depth (on_top n p c rs)
block_last n p c rs =
    last-over n (rows (suc n) c) (row_of n p c ∷ rs) (deep_less n (rows (suc n) c) (deep_rows c (suc n))) (omega (arith, row_depth n p c))

-- reading a block and what follows it
pub top_then : (n : ℕ) (p : Spot) (c : Place) (rest rs : List Row)
    → reverse_aux (row_of n p c ∷ (rows (suc n) c ++ rest)) rs ≡ reverse_aux rest (on_top n p c rs)
top_then n p c rest rs = reverse_aux-append (rows (suc n) c) rest (row_of n p c ∷ rs)
