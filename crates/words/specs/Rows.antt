-- Rows of w words, one behind another: a row's first word is its id. Marks are rows of one word, values rows of six.
-- Assumes nothing: these are definitions.
use Rattle.std.specs.Prelude.{ℕ, zero, suc, ◌+◌, ◌≤◌, ◌<◌, ◌≡◌, Bool, cond, List, [], ◌∷◌, ◌++◌, ltb, length, take, drop, get_or}
use Rattle.words.specs.Words.{over_at}

-- of the n rows at the start of xs those whose id passes the test
unfoldable pub keep_rows : ℕ → (ℕ → Bool) → ℕ → List ℕ → List ℕ
keep_rows w p zero xs = []
keep_rows w p (suc n) xs = cond (p (get_or xs 0 0)) (take w xs ++ keep_rows w p n (drop w xs)) (keep_rows w p n (drop w xs))

-- how many of the n rows at the start of xs have a smaller id than i, up to the first that hasn't
unfoldable pub rank_rows : ℕ → ℕ → ℕ → List ℕ → ℕ
rank_rows w i zero xs = 0
rank_rows w i (suc n) xs = cond (ltb (get_or xs 0 0) i) (suc (rank_rows w i n (drop w xs))) 0

module _ {A : Type 0} where
  -- how many members have a smaller number than i, up to the first that hasn't
  unfoldable pub rank_of : (A → ℕ) → ℕ → List A → ℕ
  rank_of number i [] = 0
  rank_of number i (x ∷ xs) = cond (ltb (number x) i) (suc (rank_of number i xs)) 0

  -- the rows of some members, one behind another
  unfoldable pub flat : (A → List ℕ) → List A → List ℕ
  flat row [] = []
  flat row (x ∷ xs) = row x ++ flat row xs

  -- each row has w words, the first of which is the member's number
  pub record Strides (w : ℕ) (row : A → List ℕ) (number : A → ℕ) : Type 0 where
    pub some : 0 < w
    pub wide : (x : A) → length (row x) ≡ w
    pub first : (x : A) → get_or (row x) 0 0 ≡ number x

-- What is kept was written from `to` on in the table t, which is t' now; r is the place behind the last word written.
pub record Kept (to most : ℕ) (kept t : List ℕ) (r : ℕ) (t' : List ℕ) : Type 0 where
  pub next : r ≡ to + length kept
  pub low : to ≤ r
  pub high : r ≤ to + most
  pub table : t' ≡ over_at to kept t

-- r is the rank among n
pub record Ranked (n rank r : ℕ) : Type 0 where
  pub is : r ≡ rank
  pub high : r ≤ n
