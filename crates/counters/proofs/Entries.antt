-- The tests on eight entries, as the library's methods of slices and iterators state what they answer, and entry by entry.
-- Assumes nothing.
use Prim.Native.Nat.{ℕ, ◌+◌, ◌≤◌, ◌<◌, max}
use mathlib.Core.Path.{◌≡◌, refl, sym, ap, ◌∙◌}
use mathlib.Core.Bool.{true, false, ◌&&◌, ◌||◌}
use mathlib.Core.List.{List, [], ◌∷◌}
use mathlib.Core.Logic.{◌≢◌}
use native.Mathlib.Numerals.{add-one}
use native.Mathlib.Omega.{arith}
use borrow.Author.Tests.{le-leb, lt-leb, lt-ltb, le-ltb, eq-eqb, ne_eqb}
use lib.Dec.{leb, ltb, eqb}
use lib.ListN.{length, drop, get_or, drop_of_length-le, get_or-eq_default}
use lib.Seq.{drop-cons}
use Rattle.std.specs.List.{list_all, list_any, zip, fold, reduce}
use Rattle.std.specs.Option.{unwrap_or}
use Rattle.meaning.specs.Ids.{entry, at_most, all_below}
use Rattle.meaning.specs.Edit.{largest, spent}

pub at_most_all : (d s : List ℕ) → length d ≡ length s → list_all (λ p. leb p.0 p.1) (zip d s) ≡ at_most d s
unfolding at_most
at_most_all [] s e = refl
at_most_all (x ∷ d) [] e = absurd (omega arith)
at_most_all (x ∷ d) (y ∷ s) e = ap (λ b. leb x y && b) (at_most_all d s (omega arith))

pub all_below_all : (c : ℕ) (d : List ℕ) → list_all (λ x. ltb x c) d ≡ all_below c d
unfolding all_below
all_below_all c [] = refl
all_below_all c (x ∷ d) = ap (λ b. ltb x c && b) (all_below_all c d)

pub spent_any : (s : List ℕ) → list_any (λ x. eqb x 4294967295) s ≡ spent s
unfolding spent
spent_any [] = refl
spent_any (x ∷ s) = ap (λ b. eqb x 4294967295 || b) (spent_any s)

largest_fold : (m : ℕ) (s : List ℕ) → fold max m s ≡ max m (largest s)
unfolding largest
largest_fold m [] = omega arith
largest_fold m (x ∷ s) = largest_fold (max m x) s ∙ omega arith

pub largest_max : (s : List ℕ) → unwrap_or (reduce max s) 0 ≡ largest s
unfolding largest
largest_max [] = refl
largest_max (x ∷ s) = largest_fold x s

-- The same tests entry by entry: what is asked of all entries is what is asked of those from k on, as long as the entries before k
-- decide nothing. Each test has its law for an entry that decides nothing (`goes`), for one that decides (`stops`), and for the end
-- (`ends`).

-- past the eighth entry nothing stands
pub no_entry : (l : List ℕ) (n : ℕ) → length l ≡ 8 → 8 ≤ n → 0 ≡ entry l n
no_entry l n e h = sym (get_or-eq_default l 0 (omega arith))

module _ (d s : List ℕ) (k : ℕ) (h : k < length d) (g : k < length s) where
  -- an entry that is at most the other's decides nothing
  pub at_most_goes : get_or d k 0 ≤ get_or s k 0 → at_most (drop k d) (drop k s) ≡ at_most (drop (k + 1) d) (drop (k + 1) s)
  unfolding at_most
  at_most_goes q = rw (add-one k, drop-cons d k 0 h, drop-cons s k 0 g, at_most, le-leb (get_or d k 0) (get_or s k 0) q)

  -- an entry that is larger than the other's decides
  pub at_most_stops : get_or s k 0 < get_or d k 0 → at_most (drop k d) (drop k s) ≡ false
  unfolding at_most
  at_most_stops q = rw (drop-cons d k 0 h, drop-cons s k 0 g, at_most, lt-leb (get_or d k 0) (get_or s k 0) q)

-- no entry is left
pub at_most_ends : (d s : List ℕ) (k : ℕ) → length d ≤ k → at_most (drop k d) (drop k s) ≡ true
unfolding at_most
at_most_ends d s k h = rw (drop_of_length-le d h)

module _ (l : List ℕ) (k : ℕ) (h : k < length l) where
  -- an entry below c decides nothing
  pub all_below_goes : (c : ℕ) → get_or l k 0 < c → all_below c (drop k l) ≡ all_below c (drop (k + 1) l)
  unfolding all_below
  all_below_goes c q = rw (add-one k, drop-cons l k 0 h, all_below, lt-ltb (get_or l k 0) c q)

  -- an entry that isn't below c decides
  pub all_below_stops : (c : ℕ) → c ≤ get_or l k 0 → all_below c (drop k l) ≡ false
  unfolding all_below
  all_below_stops c q = rw (drop-cons l k 0 h, all_below, le-ltb (get_or l k 0) c q)

  -- an entry below the limit decides nothing
  pub spent_goes : get_or l k 0 ≢ 4294967295 → spent (drop k l) ≡ spent (drop (k + 1) l)
  unfolding spent
  spent_goes q = rw (add-one k, drop-cons l k 0 h, spent, ne_eqb (get_or l k 0) 4294967295 q)

  -- an entry at the limit decides
  pub spent_stops : get_or l k 0 ≡ 4294967295 → spent (drop k l) ≡ true
  unfolding spent
  spent_stops q = rw (drop-cons l k 0 h, spent, eq-eqb (get_or l k 0) 4294967295 q)

  -- the largest entry is this one or the largest of those behind it
  pub largest_goes : largest (drop k l) ≡ max (get_or l k 0) (largest (drop (k + 1) l))
  unfolding largest
  largest_goes = rw (add-one k, drop-cons l k 0 h, largest)

module _ (l : List ℕ) (k : ℕ) (h : length l ≤ k) where
  -- no entry is left
  pub all_below_ends : (c : ℕ) → all_below c (drop k l) ≡ true
  unfolding all_below
  all_below_ends c = rw (drop_of_length-le l h)

  -- no entry is left
  pub spent_ends : spent (drop k l) ≡ false
  unfolding spent
  spent_ends = rw (drop_of_length-le l h)

  -- no entry is left
  pub largest-ends : largest (drop k l) ≡ 0
  unfolding largest
  largest-ends = rw (drop_of_length-le l h)
