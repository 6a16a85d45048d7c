-- Members of lists under `keep` and `put`: which numbers they have, that they ascend, what all of them satisfy, how many they are.
-- Assumes nothing.
use Rattle.std.specs.Prelude.{ℕ, suc, ◌+◌, ◌<◌, ◌≤◌, ◌≡◌, refl, Bool, List, [], ◌∷◌, ◌++◌, ◌⊎◌, length}
use Rattle.std.proofs.Common.{arith, sym, ap, ◌∙◌, true≢false, length-append}
use Rattle.std.proofs.Math.Bool.{true, false}
use Rattle.std.proofs.Math.Logic.{inl, inr, ⊎_elim}
use Rattle.meaning.specs.Sets.{keep, smaller, greater, put}
use Rattle.meaning.specs.Members.{All, Has, Ascending}
use Rattle.theorems.specs.Decide.{Tri, less, same, more, tri}
use Rattle.theorems.specs.Keep.{keep_nil, keep_yes, keep_no}
use Rattle.theorems.specs.Keep.{smaller_yes, smaller_lt, greater_yes, greater_no, greater_lt}

module _ {A : Type 0} where
  -- what all members satisfy
  pub all_map : {P Q : A → Type 0} → ((x : A) → P x → Q x) → (xs : List A) → All P xs → All Q xs
  all_map s [] h = tt
  all_map s (x ∷ xs) h = (s x h.0, all_map s xs h.1)

  pub all_both : (P Q : A → Type 0) (xs : List A) → All P xs → All Q xs → All (λ x. P x × Q x) xs
  all_both P Q [] h k = tt
  all_both P Q (x ∷ xs) h k = ((h.0, k.0), all_both P Q xs h.1 k.1)

  pub all_append : (P : A → Type 0) (xs ys : List A) → All P xs → All P ys → All P (xs ++ ys)
  all_append P [] ys h k = k
  all_append P (x ∷ xs) ys h k = (h.0, all_append P xs ys h.1 k)

  -- what holds of each that passes a test holds of all that are kept
  pub all_kept : (P Q : A → Type 0) (p : A → Bool) → ((x : A) → P x → p x ≡ true → Q x) → (xs : List A) → All P xs → All Q (keep p xs)
  all_kept P Q p s [] h = rw (keep_nil p) tt
  all_kept P Q p s (x ∷ xs) h = go (p x) refl (all_kept P Q p s xs h.1)
    where
      go : (b : Bool) → p x ≡ b → All Q (keep p xs) → All Q (keep p (x ∷ xs))
      go true e r = rw (keep_yes p x xs e) (s x h.0 e, r)
      go false e r = rw (keep_no p x xs e) r

  pub all_keep : (P : A → Type 0) (p : A → Bool) (xs : List A) → All P xs → All P (keep p xs)
  all_keep P p xs h = all_kept P P p (λ x u e. u) xs h

  -- each member that is kept has passed the test
  pub all_keep_pass : (P : A → Type 0) (p : A → Bool) (xs : List A) → All P xs → All (λ x. P x × (p x ≡ true)) (keep p xs)
  all_keep_pass P p xs h = all_kept P (λ x. P x × (p x ≡ true)) p (λ x u e. (u, e)) xs h

  all_unit : (xs : List A) → All (λ x. Unit {0}) xs
  all_unit [] = tt
  all_unit (x ∷ xs) = (tt, all_unit xs)

  pub all_pass : (p : A → Bool) (xs : List A) → All (λ x. p x ≡ true) (keep p xs)
  all_pass p xs = all_kept (λ x. Unit {0}) (λ x. p x ≡ true) p (λ x u e. e) xs (all_unit xs)

  pub all_put : (P : A → Type 0) (number : A → ℕ) (a : A) (xs : List A) → P a → All P xs → All P (put number a xs)
  unfolding put
  all_put P number a xs p h =
      all_append P (keep (smaller number a) xs) _ (all_keep P (smaller number a) xs h) (p, all_keep P (greater number a) xs h)

  -- if all pass, all are kept; if none passes, none is
  pub keep_all : (p : A → Bool) (xs : List A) → All (λ x. p x ≡ true) xs → keep p xs ≡ xs
  keep_all p [] h = keep_nil p
  keep_all p (x ∷ xs) h = keep_yes p x xs h.0 ∙ ap (x ∷◌) (keep_all p xs h.1)

  pub keep_empty : (p : A → Bool) (xs : List A) → All (λ x. p x ≡ false) xs → keep p xs ≡ []
  keep_empty p [] h = keep_nil p
  keep_empty p (x ∷ xs) h = keep_no p x xs h.0 ∙ keep_empty p xs h.1

  -- how many there are
  pub keep_length : (p : A → Bool) (xs : List A) → length (keep p xs) ≤ length xs
  keep_length p [] = rw (keep_nil p) (omega arith)
  keep_length p (x ∷ xs) = go (p x) refl (keep_length p xs)
    where
      go : (b : Bool) → p x ≡ b → length (keep p xs) ≤ length xs → length (keep p (x ∷ xs)) ≤ suc (length xs)
      go true e r = rw (keep_yes p x xs e) (omega arith)
      go false e r = rw (keep_no p x xs e) (omega arith)

  -- two tests that nothing passes both of
  keep_lengths : (p q : A → Bool) → ((x : A) → p x ≡ true → q x ≡ false) → (xs : List A)
      → length (keep p xs) + length (keep q xs) ≤ length xs
  keep_lengths p q s [] = rw (keep_nil p, keep_nil q) (omega arith)
  keep_lengths p q s (x ∷ xs) = go (p x) refl (q x) refl (keep_lengths p q s xs)
    where
      go : (a : Bool) → p x ≡ a → (b : Bool) → q x ≡ b → length (keep p xs) + length (keep q xs) ≤ length xs
          → length (keep p (x ∷ xs)) + length (keep q (x ∷ xs)) ≤ suc (length xs)
      go true e true f r = absurd (true≢false (sym f ∙ s x e))
      go true e false f r = rw (keep_yes p x xs e, keep_no q x xs f) (omega arith)
      go false e true f r = rw (keep_no p x xs e, keep_yes q x xs f) (omega arith)
      go false e false f r = rw (keep_no p x xs e, keep_no q x xs f) (omega arith)

  pub put_length : (number : A → ℕ) (a : A) (xs : List A) → length (put number a xs) ≤ suc (length xs)
  unfolding put
  put_length number a xs =
      let s = smaller number a in
      let g = greater number a in
      let apart : (x : A) → s x ≡ true → g x ≡ false = λ x e. greater_no number a x (omega (arith, smaller_lt number a x e)) in
      rw (length-append (keep s xs) (a ∷ keep g xs)) (omega (arith, keep_lengths s g apart xs))

  module _ (number : A → ℕ) where
    -- the numbers of what is kept
    pub has_keep : (p : A → Bool) (j : ℕ) (xs : List A) → Has number j (keep p xs) → Has number j xs
    has_keep p j [] h = absurd (rw (keep_nil p) at h)
    has_keep p j (x ∷ xs) h = go (p x) refl (λ h. has_keep p j xs h)
      where
        go : (b : Bool) → p x ≡ b → (Has number j (keep p xs) → Has number j xs) → Has number j (x ∷ xs)
        go true e r = ⊎_elim (λ q. inl q) (λ h. inr (r h)) (rw (keep_yes p x xs e) at h)
        go false e r = inr (r (rw (keep_no p x xs e) at h))

    -- what holds of the number of each that passes a test holds of the numbers kept
    pub has_pass : (Q : ℕ → Type 0) (p : A → Bool) → ((x : A) → p x ≡ true → Q (number x)) → (j : ℕ) (xs : List A)
        → Has number j (keep p xs) → Q j
    has_pass Q p s j [] h = absurd (rw (keep_nil p) at h)
    has_pass Q p s j (x ∷ xs) h = go (p x) refl (λ h. has_pass Q p s j xs h)
      where
        go : (b : Bool) → p x ≡ b → (Has number j (keep p xs) → Q j) → Q j
        go true e r = ⊎_elim (λ (q : j ≡ number x). rw q (s x e)) r (rw (keep_yes p x xs e) at h)
        go false e r = r (rw (keep_no p x xs e) at h)

    pub keep_has : (p : A → Bool) (j : ℕ) → ((x : A) → j ≡ number x → p x ≡ true) → (xs : List A)
        → Has number j xs → Has number j (keep p xs)
    keep_has p j s [] h = absurd h
    keep_has p j s (x ∷ xs) h = go (p x) refl (λ h. keep_has p j s xs h) h
      where
        go : (b : Bool) → p x ≡ b → (Has number j xs → Has number j (keep p xs)) → Has number j (x ∷ xs) → Has number j (keep p (x ∷ xs))
        go true f r (inl q) = rw (keep_yes p x xs f) (inl q)
        go true f r (inr h) = rw (keep_yes p x xs f) (inr (r h))
        go false f r (inl q) = absurd (true≢false (sym (s x q) ∙ f))
        go false f r (inr h) = rw (keep_no p x xs f) (r h)

    pub has_left : (j : ℕ) (xs ys : List A) → Has number j xs → Has number j (xs ++ ys)
    has_left j [] ys h = absurd h
    has_left j (x ∷ xs) ys (inl q) = inl q
    has_left j (x ∷ xs) ys (inr h) = inr (has_left j xs ys h)

    pub has_right : (j : ℕ) (xs ys : List A) → Has number j ys → Has number j (xs ++ ys)
    has_right j [] ys h = h
    has_right j (x ∷ xs) ys h = inr (has_right j xs ys h)

    pub has-append : (j : ℕ) (xs ys : List A) → Has number j (xs ++ ys) → Has number j xs ⊎ Has number j ys
    has-append j [] ys h = inr h
    has-append j (x ∷ xs) ys (inl q) = inl (inl q)
    has-append j (x ∷ xs) ys (inr h) = ⊎_elim (λ u. inl (inr u)) (λ u. inr u) (has-append j xs ys h)

    -- the numbers after `put`
    pub put_self : (a : A) (xs : List A) → Has number (number a) (put number a xs)
    unfolding put
    put_self a xs = has_right (number a) (keep (smaller number a) xs) _ (inl refl)

    pub put_has : (a : A) (j : ℕ) (xs : List A) → Has number j xs → Has number j (put number a xs)
    unfolding put
    put_has a j xs h = go (tri j (number a))
      where
        go : Tri j (number a) → Has number j (keep (smaller number a) xs ++ a ∷ keep (greater number a) xs)
        go (less p) =
            has_left j (keep (smaller number a) xs) _ (keep_has (smaller number a) j (λ x q. smaller_yes number a x (rw (← q) p)) xs h)
        go (same e) = has_right j (keep (smaller number a) xs) _ (inl e)
        go (more p) =
            has_right j (keep (smaller number a) xs) _
            (inr (keep_has (greater number a) j (λ x q. greater_yes number a x (rw (← q) p)) xs h))

    pub has_put : (a : A) (j : ℕ) (xs : List A) → Has number j (put number a xs) → (j ≡ number a) ⊎ Has number j xs
    unfolding put
    has_put a j xs h =
        ⊎_elim (λ u. inr (has_keep (smaller number a) j xs u)) (⊎_elim (λ q. inl q) (λ u. inr (has_keep (greater number a) j xs u)))
        (has-append j (keep (smaller number a) xs) _ h)

    -- order
    pub asc_keep : (p : A → Bool) (xs : List A) → Ascending number xs → Ascending number (keep p xs)
    asc_keep p [] h = rw (keep_nil p) tt
    asc_keep p (x ∷ xs) h = go (p x) refl (asc_keep p xs h.1)
      where
        go : (b : Bool) → p x ≡ b → Ascending number (keep p xs) → Ascending number (keep p (x ∷ xs))
        go true e r = rw (keep_yes p x xs e) ((λ j u. h.0 j (has_keep p j xs u)), r)
        go false e r = rw (keep_no p x xs e) r

    pub asc_append : (xs ys : List A) → Ascending number xs → Ascending number ys
        → ((i j : ℕ) → Has number i xs → Has number j ys → i < j) → Ascending number (xs ++ ys)
    asc_append [] ys h k s = k
    asc_append (x ∷ xs) ys h k s = (
      (λ j u. ⊎_elim (λ v. h.0 j v) (λ v. s (number x) j (inl refl) v) (has-append j xs ys u)),
      asc_append xs ys h.1 k (λ i j u v. s i j (inr u) v),
    )

    pub asc_put : (a : A) (xs : List A) → Ascending number xs → Ascending number (put number a xs)
    unfolding put
    asc_put a xs h =
        asc_append (keep (smaller number a) xs) (a ∷ keep (greater number a) xs) (asc_keep (smaller number a) xs h)
        ((λ j u. above j u), asc_keep (greater number a) xs h) apart
      where
        above : (j : ℕ) → Has number j (keep (greater number a) xs) → number a < j
        above j u = has_pass (λ j. number a < j) (greater number a) (λ x e. greater_lt number a x e) j xs u

        below : (i : ℕ) → Has number i (keep (smaller number a) xs) → i < number a
        below i u = has_pass (λ i. i < number a) (smaller number a) (λ x e. smaller_lt number a x e) i xs u

        apart : (i j : ℕ) → Has number i (keep (smaller number a) xs) → Has number j (a ∷ keep (greater number a) xs) → i < j
        apart i j u (inl q) = omega (arith, below i u)
        apart i j u (inr v) = omega (arith, below i u, above j v)
