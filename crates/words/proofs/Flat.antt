-- Members and their rows: where `put` puts a member among ascending ones, by its rank; and that what is done to rows is what is done to
-- members.
-- Assumes nothing.
use Prim.Native.Nat.{ℕ, zero, suc, ◌+◌, ◌*◌, ◌≤◌, ◌<◌}
use mathlib.Core.Path.{◌≡◌, refl, sym, ap, ◌∙◌}
use mathlib.Core.Bool.{Bool, true, false}
use mathlib.Core.List.{List, [], ◌∷◌, ◌++◌, append_assoc}
use mathlib.Core.Logic.{inl, inr}
use native.Mathlib.Nat.{suc-mul, zero-mul}
use native.Mathlib.Omega.{arith}
use borrow.Author.Tests.{lt-ltb, le-ltb}
use lib.ListN.{length, take, drop, get_or, length-append, get_or-append}
use lib.Seq.{take_at, drop_at, take-append-add, drop-append-add}
use Rattle.meaning.specs.Sets.{keep, smaller, greater, put}
use Rattle.meaning.specs.Members.{All, Has, Ascending, own}
use Rattle.theorems.specs.Decide.{Tri, less, same, more, tri}
use Rattle.theorems.specs.Keep.{keep_nil, keep_yes, keep_no, smaller_yes, smaller_no, greater_yes, greater_no}
use Rattle.theorems.specs.Members.{keep_all, keep_empty}
use Rattle.words.specs.Rows.{keep_rows, rank_rows, rank_of, flat, Strides}

module _ {A : Type 0} (number : A → ℕ) where
  pub rank_yes : (i : ℕ) (x : A) (xs : List A) → number x < i → rank_of number i (x ∷ xs) ≡ suc (rank_of number i xs)
  unfolding rank_of
  rank_yes i x xs h = rw (lt-ltb (number x) i h)

  pub rank_no : (i : ℕ) (x : A) (xs : List A) → i ≤ number x → rank_of number i (x ∷ xs) ≡ 0
  unfolding rank_of
  rank_no i x xs h = rw (le-ltb (number x) i h)

  -- the rank is among the members
  pub rank_high : (i : ℕ) (xs : List A) → rank_of number i xs ≤ length xs
  unfolding rank_of
  rank_high i [] = omega arith
  rank_high i (x ∷ xs) = go (tri (number x) i) (rank_high i xs)
    where
      go : Tri (number x) i → rank_of number i xs ≤ length xs → rank_of number i (x ∷ xs) ≤ suc (length xs)
      go (less h) r = omega (arith, rank_yes i x xs h)
      go (same e) r = omega (arith, rank_no i x xs (omega arith))
      go (more h) r = omega (arith, rank_no i x xs (omega arith))

  -- all numbers are above that of a
  above : (a : A) (xs : List A) → ((j : ℕ) → Has number j xs → number a < j) → All (λ x. number a < number x) xs
  above a [] h = tt
  above a (x ∷ xs) h = (h (number x) (inl refl), above a xs (λ j q. h j (inr q)))

  greater_all : (a : A) (xs : List A) → All (λ x. number a < number x) xs → keep (greater number a) xs ≡ xs
  greater_all a xs h = keep_all (greater number a) xs (go xs h)
    where
      go : (xs : List A) → All (λ x. number a < number x) xs → All (λ x. greater number a x ≡ true) xs
      go [] h = tt
      go (x ∷ xs) h = (greater_yes number a x h.0, go xs h.1)

  smaller_none : (a : A) (xs : List A) → All (λ x. number a < number x) xs → keep (smaller number a) xs ≡ []
  smaller_none a xs h = keep_empty (smaller number a) xs (go xs h)
    where
      go : (xs : List A) → All (λ x. number a < number x) xs → All (λ x. smaller number a x ≡ false) xs
      go [] h = tt
      go (x ∷ xs) h = (smaller_no number a x (omega (arith, h.0)), go xs h.1)

  -- a member whose number is smaller stays in front
  put_less : (a x : A) (xs : List A) → number x < number a → put number a (x ∷ xs) ≡ x ∷ put number a xs
  unfolding put
  put_less a x xs h =
      let g : number x ≤ number a = omega arith in
      rw (keep_yes (smaller number a) x xs (smaller_yes number a x h), keep_no (greater number a) x xs (greater_no number a x g))

  -- among ascending members a new one goes to its rank
  pub put_new : (a : A) (xs : List A) → Ascending number xs → (Has number (number a) xs → ⊥)
      → put number a xs ≡ take (rank_of number (number a) xs) xs ++ a ∷ drop (rank_of number (number a) xs) xs
  unfolding put rank_of
  put_new a [] s h = simp keep_nil
  put_new a (x ∷ xs) s h = go (tri (number x) (number a)) (put_new a xs s.1 (λ q. h (inr q)))
    where
      go : Tri (number x) (number a)
          → put number a xs ≡ take (rank_of number (number a) xs) xs ++ a ∷ drop (rank_of number (number a) xs) xs
          → put number a (x ∷ xs) ≡ take (rank_of number (number a) (x ∷ xs)) (x ∷ xs) ++ a ∷ drop
          (rank_of number (number a) (x ∷ xs)) (x ∷ xs)
      go (less q) r = rw (rank_yes (number a) x xs q) (put_less a x xs q ∙ ap (λ (l : List A). x ∷ l) r)
      go (same e) r = absurd (h (inl (sym e)))
      go (more q) r =
          let g = above a (x ∷ xs) (λ j m. reach j m) in
          rw (rank_no (number a) x xs (omega arith), smaller_none a (x ∷ xs) g, greater_all a (x ∷ xs) g)
        where
          reach : (j : ℕ) → Has number j (x ∷ xs) → number a < j
          reach j (inl e) = omega arith
          reach j (inr m) = omega (arith, s.0 j m)

  -- and one whose number is there takes that one's place
  pub put_again : (a : A) (xs : List A) → Ascending number xs → Has number (number a) xs
      → put number a xs ≡ take (rank_of number (number a) xs) xs ++ a ∷ drop (suc (rank_of number (number a) xs)) xs
  unfolding put rank_of
  put_again a [] s h = absurd h
  put_again a (x ∷ xs) s h = go (tri (number x) (number a)) (λ q. put_again a xs s.1 q) h
    where
      go : Tri (number x) (number a)
          → (Has number (number a) xs
          → put number a xs ≡ take (rank_of number (number a) xs) xs ++ a ∷ drop (suc (rank_of number (number a) xs)) xs)
          → Has number (number a) (x ∷ xs)
          → put number a (x ∷ xs) ≡ take (rank_of number (number a) (x ∷ xs)) (x ∷ xs) ++ a ∷ drop
          (suc (rank_of number (number a) (x ∷ xs))) (x ∷ xs)
      go (less q) r (inl e) = absurd (omega arith)
      go (less q) r (inr m) = rw (rank_yes (number a) x xs q) (put_less a x xs q ∙ ap (λ (l : List A). x ∷ l) (r m))
      go (same e) r m =
          let g = above a xs (λ j n. omega (arith, s.0 j n)) in
          let u = keep_no (smaller number a) x xs (smaller_no number a x (omega arith)) in
          let v = keep_no (greater number a) x xs (greater_no number a x (omega arith)) in
          rw (rank_no (number a) x xs (omega arith), u, v, smaller_none a xs g, greater_all a xs g)
      go (more q) r (inl e) = absurd (omega arith)
      go (more q) r (inr m) = absurd (omega (arith, s.0 (number a) m))

-- a mark that is there stays: the list is as it was
pub put_own : (i : ℕ) (xs : List ℕ) → Ascending own xs → Has own i xs → put own i xs ≡ xs
unfolding put
put_own i [] s h = absurd h
put_own i (x ∷ xs) s h = go (tri x i) (λ q. put_own i xs s.1 q) h
  where
    go : Tri x i → (Has own i xs → put own i xs ≡ xs) → Has own i (x ∷ xs) → put own i (x ∷ xs) ≡ x ∷ xs
    go (less q) r (inl e) = absurd (omega arith)
    go (less q) r (inr m) = put_less own i x xs q ∙ ap (λ (l : List ℕ). x ∷ l) (r m)
    go (same e) r m =
        let g = above own i xs (λ j n. omega (arith, s.0 j n)) in
        let u = keep_no (smaller own i) x xs (smaller_no own i x (omega arith)) in
        let v = keep_no (greater own i) x xs (greater_no own i x (omega arith)) in
        rw (u, v, smaller_none own i xs g, greater_all own i xs g, e)
    go (more q) r (inl e) = absurd (omega arith)
    go (more q) r (inr m) = absurd (omega (arith, s.0 i m))

-- Rows of members.

-- a mark is the row of itself
abbrev pub alone : ℕ → List ℕ
alone i = i ∷ []

pub flat_own : (xs : List ℕ) → flat alone xs ≡ xs
unfolding flat
flat_own [] = refl
flat_own (x ∷ xs) = ap (λ (l : List ℕ). x ∷ l) (flat_own xs)

pub strides_own : Strides 1 alone own
strides_own = record { some = omega arith; wide = λ x. refl; first = λ x. refl }

module _ {A : Type 0} (w : ℕ) (row : A → List ℕ) (number : A → ℕ) (S : Strides w row number) where
  pub flat_append : (xs ys : List A) → flat row (xs ++ ys) ≡ flat row xs ++ flat row ys
  unfolding flat
  flat_append [] ys = refl
  flat_append (x ∷ xs) ys = rw (flat_append xs ys) (sym (append_assoc (row x) (flat row xs) (flat row ys)))

  pub flat_between : (xs : List A) (y : A) (ys : List A) → flat row (xs ++ y ∷ ys) ≡ flat row xs ++ (row y ++ flat row ys)
  unfolding flat
  flat_between xs y ys = flat_append xs (y ∷ ys)

  pub flat_length : (xs : List A) → length (flat row xs) ≡ length xs * w
  unfolding flat
  flat_length [] = sym (zero-mul w)
  flat_length (x ∷ xs) = simp length-append (omega (arith, flat_length xs, S.wide x, suc-mul (length xs) w))

  -- the first r members
  pub flat_take : (r : ℕ) (xs : List A) → take (r * w) (flat row xs) ≡ flat row (take r xs)
  unfolding flat
  flat_take zero xs = rw (zero-mul w)
  flat_take (suc r) [] = lib.Seq.take-nil (suc r * w)
  flat_take (suc r) (x ∷ xs) =
      let e : suc r * w ≡ length (row x) + r * w = omega (arith, suc-mul r w, S.wide x) in
      rw e (take-append-add (row x) (flat row xs) (r * w) ∙ ap (λ (l : List ℕ). row x ++ l) (flat_take r xs))

  pub flat_drop : (r : ℕ) (xs : List A) → drop (r * w) (flat row xs) ≡ flat row (drop r xs)
  unfolding flat
  flat_drop zero xs = rw (zero-mul w)
  flat_drop (suc r) [] = lib.Seq.drop-nil (suc r * w)
  flat_drop (suc r) (x ∷ xs) =
      let e : suc r * w ≡ length (row x) + r * w = omega (arith, suc-mul r w, S.wide x) in
      rw e (drop-append-add (row x) (flat row xs) (r * w) ∙ flat_drop r xs)

  head : (x : A) (rest : List ℕ) → get_or (row x ++ rest) 0 0 ≡ number x
  head x rest = get_or-append (row x) rest 0 0 (omega (arith, S.some, S.wide x)) ∙ S.first x

  -- those kept
  pub flat_keep : (p : ℕ → Bool) (xs : List A) (rest : List ℕ)
      → keep_rows w p (length xs) (flat row xs ++ rest) ≡ flat row (keep (λ x. p (number x)) xs)
  unfolding keep_rows flat
  flat_keep p [] rest = rw (keep_nil (λ x. p (number x)))
  flat_keep p (x ∷ xs) rest = go (p (number x)) refl (flat_keep p xs rest)
    where
      R : List ℕ
      R = flat row xs ++ rest

      go : (b : Bool) → p (number x) ≡ b → keep_rows w p (length xs) (flat row xs ++ rest) ≡ flat row (keep (λ x. p (number x)) xs)
          → keep_rows w p (suc (length xs)) ((row x ++ flat row xs) ++ rest) ≡ flat row (keep (λ x. p (number x)) (x ∷ xs))
      go true e h =
          rw (
            append_assoc (row x) (flat row xs) rest,
            head x (flat row xs ++ rest),
            e,
            keep_yes (λ x. p (number x)) x xs e,
            take_at (row x) (flat row xs ++ rest) w (S.wide x),
            drop_at (row x) (flat row xs ++ rest) w (S.wide x),
            h,
          )
      go false e h =
          rw (
            append_assoc (row x) (flat row xs) rest,
            head x (flat row xs ++ rest),
            e,
            keep_no (λ x. p (number x)) x xs e,
            drop_at (row x) (flat row xs ++ rest) w (S.wide x),
            h,
          )

  -- the rank
  pub flat_rank : (i : ℕ) (xs : List A) (rest : List ℕ) → rank_rows w i (length xs) (flat row xs ++ rest) ≡ rank_of number i xs
  unfolding rank_rows rank_of flat
  flat_rank i [] rest = refl
  flat_rank i (x ∷ xs) rest =
      rw (
        append_assoc (row x) (flat row xs) rest,
        head x (flat row xs ++ rest),
        drop_at (row x) (flat row xs ++ rest) w (S.wide x),
        flat_rank i xs rest,
      )
