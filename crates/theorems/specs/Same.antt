-- Convergence, with the operations as sets: two orders that readiness lets through, of the same operations, give equal documents.
-- In such an order each operation stands once.
-- Assumes nothing.
use Rattle.std.specs.Prelude.{ℕ, ◌<◌, ◌≡◌, refl, List, [], ◌∷◌, ◌++◌, ◌⊎◌, length}
use Rattle.std.proofs.Common.{arith, sym, ap, subst, inl, inr, ⊎_elim}
use Rattle.meaning.specs.Ids.{counter_of, entry, raise}
use Rattle.meaning.specs.Places.{Document}
use Rattle.meaning.specs.Ways.{Operation}
use Rattle.meaning.specs.Apply.{apply_all}
use Rattle.theorems.specs.Counters.{raise-length, raise-own}
use Rattle.theorems.specs.Converge.{who, Goes, Reordered, done, move, grows, converge}

-- an operation is one of a list's
abbrev pub In : Operation → List Operation → Type 0
In o [] = ⊥
In o (x ∷ xs) = (o ≡ x) ⊎ In o xs

-- no operation stands twice
abbrev pub Once : List Operation → Type 0
Once [] = Unit {0}
Once (x ∷ xs) = (In x xs → ⊥) × Once xs

-- two lists have the same members
pub record SameMembers (xs ys : List Operation) : Type 0 where
  pub there : (o : Operation) → In o xs → In o ys
  pub back : (o : Operation) → In o ys → In o xs

-- an operation still to come is newer than what is seen
pub newer : (s : List ℕ) (xs : List Operation) (o : Operation) → length s ≡ 8 → Goes s xs → In o xs
    → entry s (who o) < counter_of o.id
newer s [] o e g h = absurd h
newer s (x ∷ xs) o e g (inl q) = rw q (omega (arith, g.0.own, g.0.above (who x)))
newer s (x ∷ xs) o e g (inr h) =
    omega (arith, grows s x e g.0 (who o), newer (raise s x.id) xs o (raise-length s x.id e) g.1 h)

pub goes_once : (s : List ℕ) (xs : List Operation) → length s ≡ 8 → Goes s xs → Once xs
goes_once s [] e g = tt
goes_once s (x ∷ xs) e g =
    let e' = raise-length s x.id e in
    ((λ h. omega (arith, newer (raise s x.id) xs x e' g.1 h, raise-own s x.id e)), goes_once (raise s x.id) xs e' g.1)

-- a list around one of its members
record Split (o : Operation) (ys : List Operation) : Type 0 where
  pre : List Operation
  suf : List Operation
  whole : ys ≡ pre ++ (o ∷ suf)

split : (o : Operation) (ys : List Operation) → In o ys → Split o ys
split o [] h = absurd h
split o (y ∷ ys) (inl q) = record { pre = []; suf = ys; whole = ap (◌∷ ys) (sym q) }
split o (y ∷ ys) (inr h) = let r = split o ys h in record { pre = y ∷ r.pre; suf = r.suf; whole = ap (y ∷◌) r.whole }

in_out : (o x : Operation) (ls bs : List Operation) → In o (ls ++ (x ∷ bs)) → (o ≡ x) ⊎ In o (ls ++ bs)
in_out o x [] bs h = h
in_out o x (y ∷ ys) bs (inl q) = inr (inl q)
in_out o x (y ∷ ys) bs (inr h) = ⊎_elim (λ u. inl u) (λ u. inr (inr u)) (in_out o x ys bs h)

in_in : (o x : Operation) (ls bs : List Operation) → In o (ls ++ bs) → In o (ls ++ (x ∷ bs))
in_in o x [] bs h = inr h
in_in o x (y ∷ ys) bs (inl q) = inl q
in_in o x (y ∷ ys) bs (inr h) = inr (in_in o x ys bs h)

in_mid : (x : Operation) (ls bs : List Operation) → In x (ls ++ (x ∷ bs))
in_mid x [] bs = inl refl
in_mid x (y ∷ ys) bs = inr (in_mid x ys bs)

once_out : (x : Operation) (ls bs : List Operation) → Once (ls ++ (x ∷ bs)) → Once (ls ++ bs) × (In x (ls ++ bs) → ⊥)
once_out x [] bs h = (h.1, h.0)
once_out x (y ∷ ys) bs h =
    let r = once_out x ys bs h.1 in
    let x≢y : x ≡ y → ⊥ = λ q. h.0 (subst (λ z. In z (ys ++ (x ∷ bs))) q (in_mid x ys bs)) in
    (((λ u. h.0 (in_in y x ys bs u)), r.0), ⊎_elim x≢y r.1)

-- lists with the same members, each once, are one another reordered
reorder : (xs ys : List Operation) → Once xs → Once ys → SameMembers xs ys → Reordered xs ys
reorder [] [] p q a = done
reorder [] (y ∷ ys) p q a = absurd (a.back y (inl refl))
reorder (x ∷ xs) ys p q a = go (split x ys (a.there x (inl refl))) (λ zs q a. reorder xs zs p.1 q a)
  where
    go : Split x ys → ((zs : List Operation) → Once zs → SameMembers xs zs → Reordered xs zs) → Reordered (x ∷ xs) ys
    go r k =
        let ls = r.pre in
        let bs = r.suf in
        let u = once_out x ls bs (rw r.whole at q) in
        let rest : SameMembers xs (ls ++ bs) = record {
          there = λ o h. ⊎_elim (λ (e : o ≡ x). absurd (p.0 (rw e at h))) (λ v. v)
              (in_out o x ls bs (rw r.whole at (a.there o (inr h))));
          back = λ o h. ⊎_elim (λ (e : o ≡ x). absurd (u.1 (rw e at h))) (λ v. v) (a.back o (rw r.whole (in_in o x ls bs h)));
        } in
        subst (Reordered (x ∷ xs)) (sym r.whole) (move ls bs (k (ls ++ bs) u.0 rest))

pub same_operations : (xs ys : List Operation) (D : Document) → length D.seen ≡ 8
    → Goes D.seen xs → Goes D.seen ys → SameMembers xs ys → apply_all xs D ≡ apply_all ys D
same_operations xs ys D e g h a =
    converge xs ys D e (reorder xs ys (goes_once D.seen xs e g) (goes_once D.seen ys e h) a) g h
