-- Where a search among rows stops: the rows passed, and the rest.
-- Assumes nothing.
use Rattle.std.specs.Prelude.{ℕ, suc, ◌≤◌, ◌≡◌, refl, Bool, true, false, List, [], ◌∷◌, ◌++◌}
use Rattle.std.proofs.Common.{arith, sym, ap, ◌∙◌, append_assoc, lt-ltb, le-ltb, eq-eqb}
use Rattle.meaning.specs.Places.{Place, Children, childless, child, Elements, empty, element}
use Rattle.meaning.specs.Members.{All}
use Rattle.meaning.specs.Sheet.{Spot, in_map, in_list, Row, row_of, rows, rows_children, rows_elements}
use Rattle.theorems.specs.Rows.{row_depth, row_spot}
use Rattle.theorems.specs.Fit.{Deep, deep_rows}
use Rattle.rows.specs.Blocks.{passed, rest, deeper, over, at}

-- a search over rs passes a and stops before b
pub record Splits (p : Row → Bool) (rs a b : List Row) : Type 0 where
  pub front : passed p rs ≡ a
  pub back : rest p rs ≡ b

pub split_none : (p : Row → Bool) → Splits p [] [] []
unfolding passed rest
split_none p = record { front = refl; back = refl }

pub split_stop : (p : Row → Bool) (r : Row) (rs : List Row) → p r ≡ false → Splits p (r ∷ rs) [] (r ∷ rs)
unfolding passed rest
split_stop p r rs e = record { front = rw e; back = rw e }

split_pass : (p : Row → Bool) (r : Row) (rs a b : List Row) → p r ≡ true → Splits p rs a b → Splits p (r ∷ rs) (r ∷ a) b
unfolding passed rest
split_pass p r rs a b e s = record { front = rw e (ap (r ∷◌) s.front); back = rw e s.back }

pub split_all : (p : Row → Bool) (xs rs a b : List Row) → All (λ r. p r ≡ true) xs → Splits p rs a b → Splits p (xs ++ rs) (xs ++ a) b
split_all p [] rs a b h s = s
split_all p (x ∷ xs) rs a b h s = split_pass p x (xs ++ rs) (xs ++ a) b h.0 (split_all p xs rs a b h.1 s)

-- A block: a row of depth n and the deeper rows behind it.

deep_passes : (n : ℕ) (test : Spot → Bool) (xs : List Row) → Deep (suc n) xs → All (λ r. over n test r ≡ true) xs
deep_passes n test [] d = tt
deep_passes n test (x ∷ xs) d = (rw (lt-ltb n x.depth d.0), deep_passes n test xs d.1)

pub deep_deeper : (n : ℕ) (xs : List Row) → Deep (suc n) xs → All (λ r. deeper n r ≡ true) xs
deep_deeper n [] d = tt
deep_deeper n (x ∷ xs) d = (lt-ltb n x.depth d.0, deep_deeper n xs d.1)

-- what the test says of a row of depth n is what it says of its spot
pub over_row : (n : ℕ) (test : Spot → Bool) (p : Spot) (c : Place) → over n test (row_of n p c) ≡ test p
over_row n test p c =
    let d = row_depth n p c in
    rw (le-ltb n (row_of n p c).depth (omega arith), eq-eqb (row_of n p c).depth n d, row_spot n p c)

pub at_row : (n : ℕ) (test : Spot → Bool) (p : Spot) (c : Place) → at n test (row_of n p c) ≡ test p
at_row n test p c = rw (eq-eqb (row_of n p c).depth n (row_depth n p c), row_spot n p c)

pub block_pass : (n : ℕ) (test : Spot → Bool) (p : Spot) (c : Place) (rs a b : List Row) → test p ≡ true → Splits (over n test) rs a b
    → Splits (over n test) (row_of n p c ∷ (rows (suc n) c ++ rs)) (row_of n p c ∷ (rows (suc n) c ++ a)) b
block_pass n test p c rs a b e s =
    split_pass (over n test) (row_of n p c) _ _ b (over_row n test p c ∙ e)
    (split_all (over n test) (rows (suc n) c) rs a b (deep_passes n test (rows (suc n) c) (deep_rows c (suc n))) s)

pub block_stop : (n : ℕ) (test : Spot → Bool) (p : Spot) (c : Place) (rs : List Row) → test p ≡ false
    → Splits (over n test) (row_of n p c ∷ rs) [] (row_of n p c ∷ rs)
block_stop n test p c rs e = split_stop (over n test) (row_of n p c) rs (over_row n test p c ∙ e)

-- what hangs under a place ends where a row of its depth or less stands
abbrev pub Shallow : ℕ → List Row → Type 0
Shallow n [] = Unit {0}
Shallow n (r ∷ rs) = r.depth ≤ n

pub shallow_stop : (n : ℕ) (rs : List Row) → Shallow n rs → Splits (deeper n) rs [] rs
shallow_stop n [] h = split_none (deeper n)
shallow_stop n (r ∷ rs) h = split_stop (deeper n) r rs (le-ltb n r.depth h)

pub under_split : (n : ℕ) (c : Place) (rs : List Row) → Shallow n rs → Splits (deeper n) (rows (suc n) c ++ rs) (rows (suc n) c ++ []) rs
under_split n c rs h =
    split_all (deeper n) (rows (suc n) c) rs [] rs (deep_deeper n (rows (suc n) c) (deep_rows c (suc n))) (shallow_stop n rs h)

pub shallow_elements : (n : ℕ) (es : Elements) → Shallow n (rows_elements n es)
unfolding rows_elements
shallow_elements n empty = tt
shallow_elements n (element i c es) = omega (arith, row_depth n (in_list i) c)

pub shallow_children : (n : ℕ) (ks : Children) (es : Elements) → Shallow n (rows_children n ks ++ rows_elements n es)
unfolding rows_children
shallow_children n childless es = shallow_elements n es
shallow_children n (child k c ks) es = omega (arith, row_depth n (in_map k) c)

-- a test that every key passes goes over the whole map
pub map_pass : (n : ℕ) (test : Spot → Bool) → ((k : List ℕ) → test (in_map k) ≡ true) → (ks : Children) (rs a b : List Row)
    → Splits (over n test) rs a b → Splits (over n test) (rows_children n ks ++ rs) (rows_children n ks ++ a) b
unfolding rows_children
map_pass n test h childless rs a b s = s
map_pass n test h (child k c ks) rs a b s =
    let t = block_pass n test (in_map k) c (rows_children n ks ++ rs) (rows_children n ks ++ a) b (h k) (map_pass n test h ks rs a b s) in
    record {
      front = ap (λ us. passed (over n test) (row_of n (in_map k) c ∷ us)) (append_assoc (rows (suc n) c) (rows_children n ks) rs)
          ∙ (t.front ∙ ap (row_of n (in_map k) c ∷◌) (sym (append_assoc (rows (suc n) c) (rows_children n ks) a)));
      back = ap (λ us. rest (over n test) (row_of n (in_map k) c ∷ us)) (append_assoc (rows (suc n) c) (rows_children n ks) rs) ∙ t.back;
    }
