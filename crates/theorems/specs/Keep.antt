-- The laws of `keep` and `put`, on any list: no order is asked for.
-- Assumes nothing.
use Rattle.std.specs.Prelude.{ℕ, ◌<◌, ◌≤◌, ◌≡◌, Bool, List, [], ◌∷◌, ◌++◌, ◌≢◌}
use Rattle.std.proofs.Common.{arith, sym, ◌∙◌, true≢false, append_assoc, append-nil}
use Rattle.std.proofs.Math.Path.{refl}
use Rattle.std.proofs.Math.Bool.{true, false}
use borrow.Author.Tests.{lt-ltb, le-ltb, ltb-true}
use Rattle.meaning.specs.Sets.{keep, smaller, greater, put}
use Rattle.theorems.specs.Decide.{Tri, less, same, more, tri}

module _ {A : Type 0} where
  pub keep_nil : (p : A → Bool) → keep p [] ≡ []
  unfolding keep
  keep_nil p = refl

  pub keep_yes : (p : A → Bool) (x : A) (xs : List A) → p x ≡ true → keep p (x ∷ xs) ≡ x ∷ keep p xs
  unfolding keep
  keep_yes p x xs e = rw e

  pub keep_no : (p : A → Bool) (x : A) (xs : List A) → p x ≡ false → keep p (x ∷ xs) ≡ keep p xs
  unfolding keep
  keep_no p x xs e = rw e

  pub keep_append : (p : A → Bool) (xs ys : List A) → keep p (xs ++ ys) ≡ keep p xs ++ keep p ys
  keep_append p [] ys = simp keep_nil
  keep_append p (x ∷ xs) ys = go (p x) refl (keep_append p xs ys)
    where
      go : (b : Bool) → p x ≡ b → keep p (xs ++ ys) ≡ keep p xs ++ keep p ys → keep p (x ∷ (xs ++ ys)) ≡ keep p (x ∷ xs) ++ keep p ys
      go true e h = simp (keep_yes, h)
      go false e h = simp (keep_no, h)

  pub keep_comm : (p q : A → Bool) (xs : List A) → keep p (keep q xs) ≡ keep q (keep p xs)
  keep_comm p q [] = simp keep_nil
  keep_comm p q (x ∷ xs) = go (p x) refl (q x) refl (keep_comm p q xs)
    where
      go : (a : Bool) → p x ≡ a → (b : Bool) → q x ≡ b → keep p (keep q xs) ≡ keep q (keep p xs)
          → keep p (keep q (x ∷ xs)) ≡ keep q (keep p (x ∷ xs))
      go true e true f h = simp (keep_yes, h)
      go true e false f h = simp (keep_yes, keep_no, h)
      go false e true f h = simp (keep_yes, keep_no, h)
      go false e false f h = simp (keep_no, h)

  -- what passes p passes q too
  pub keep_sub : (p q : A → Bool) → ((x : A) → p x ≡ true → q x ≡ true) → (xs : List A) → keep p (keep q xs) ≡ keep p xs
  keep_sub p q s [] = simp keep_nil
  keep_sub p q s (x ∷ xs) = go (p x) refl (q x) refl (keep_sub p q s xs)
    where
      go : (a : Bool) → p x ≡ a → (b : Bool) → q x ≡ b → keep p (keep q xs) ≡ keep p xs → keep p (keep q (x ∷ xs)) ≡ keep p (x ∷ xs)
      go true e true f h = simp (keep_yes, h)
      go true e false f h = absurd (true≢false (sym (s x e) ∙ f))
      go false e true f h = simp (keep_yes, keep_no, h)
      go false e false f h = simp (keep_no, h)

  -- nothing passes both
  pub keep_none : (p q : A → Bool) → ((x : A) → p x ≡ true → q x ≡ false) → (xs : List A) → keep p (keep q xs) ≡ []
  keep_none p q s [] = simp keep_nil
  keep_none p q s (x ∷ xs) = go (p x) refl (q x) refl (keep_none p q s xs)
    where
      go : (a : Bool) → p x ≡ a → (b : Bool) → q x ≡ b → keep p (keep q xs) ≡ [] → keep p (keep q (x ∷ xs)) ≡ []
      go true e true f h = absurd (true≢false (sym f ∙ s x e))
      go true e false f h = simp (keep_no, h)
      go false e true f h = simp (keep_yes, keep_no, h)
      go false e false f h = simp (keep_no, h)

  module _ (number : A → ℕ) where
    pub smaller_yes : (a x : A) → number x < number a → smaller number a x ≡ true
    unfolding smaller
    smaller_yes a x h = lt-ltb (number x) (number a) h

    pub smaller_no : (a x : A) → number a ≤ number x → smaller number a x ≡ false
    unfolding smaller
    smaller_no a x h = le-ltb (number x) (number a) h

    pub smaller_lt : (a x : A) → smaller number a x ≡ true → number x < number a
    unfolding smaller
    smaller_lt a x e = ltb-true (number x) (number a) e

    pub greater_yes : (a x : A) → number a < number x → greater number a x ≡ true
    unfolding greater
    greater_yes a x h = lt-ltb (number a) (number x) h

    pub greater_no : (a x : A) → number x ≤ number a → greater number a x ≡ false
    unfolding greater
    greater_no a x h = le-ltb (number a) (number x) h

    pub greater_lt : (a x : A) → greater number a x ≡ true → number a < number x
    unfolding greater
    greater_lt a x e = ltb-true (number a) (number x) e

    pub keep_put : (p : A → Bool) (a : A) (xs : List A) → p a ≡ true → keep p (put number a xs) ≡ put number a (keep p xs)
    unfolding put
    keep_put p a xs e =
        simp (keep_append, keep_yes) (rw (keep_comm p (smaller number a) xs, keep_comm p (greater number a) xs))

    put_lt : (a b : A) (xs : List A) → number a < number b → put number a (put number b xs) ≡ put number b (put number a xs)
    unfolding put
    put_lt a b xs h =
        let e1 : smaller number a b ≡ false = smaller_no a b (omega arith) in
        let e2 : greater number a b ≡ true = greater_yes a b h in
        let e3 : smaller number b a ≡ true = smaller_yes b a h in
        let e4 : greater number b a ≡ false = greater_no b a (omega arith) in
        let l1 = keep_sub (smaller number a) (smaller number b) (λ x e. smaller_yes b x (omega (arith, smaller_lt a x e))) xs in
        let l2 = keep_none (smaller number a) (greater number b) (λ x e. greater_no b x (omega (arith, smaller_lt a x e))) xs in
        let l3 = keep_sub (greater number b) (greater number a) (λ x e. greater_yes a x (omega (arith, greater_lt b x e))) xs in
        let l4 = keep_comm (greater number a) (greater number b) xs in
        let l5 = keep_comm (smaller number b) (smaller number a) xs in
        let l6 = keep_comm (smaller number b) (greater number a) xs in
        let l7 = keep_comm (greater number b) (smaller number a) xs in
        simp (keep_append, keep_yes, keep_no) (rw (l5, l6, l7, l4, l1, l2, l3) (simp (append_assoc, append-nil)))

    pub put_put : (a b : A) (xs : List A) → number a ≢ number b → put number a (put number b xs) ≡ put number b (put number a xs)
    put_put a b xs n = go (tri (number a) (number b))
      where
        go : Tri (number a) (number b) → put number a (put number b xs) ≡ put number b (put number a xs)
        go (less h) = put_lt a b xs h
        go (same e) = absurd (n e)
        go (more h) = sym (put_lt b a xs h)
