-- Convergence: from one document, two orders of the same operations that readiness lets through end in equal documents.
-- `Same` says the same with the operations as sets.
-- Assumes nothing.
use Rattle.std.specs.Prelude.{ℕ, ◌<◌, ◌≤◌, ◌≡◌, refl, List, [], ◌∷◌, ◌++◌, ◌≢◌, length}
use Rattle.std.proofs.Common.{arith, sym, ap, ◌∙◌, subst}
use Rattle.std.proofs.lemmas.List.{set_comm}
use Rattle.meaning.specs.Ids.{counter_of, entry_of, entry, raise}
use Rattle.meaning.specs.Places.{Document}
use Rattle.meaning.specs.Ways.{Operation}
use Rattle.meaning.specs.Apply.{apply, apply_all}
use Rattle.theorems.specs.Counters.{raise-length, raise-own, raise_other, raise_grows, lt_uncovered}
use Rattle.theorems.specs.Commute.{Known, Apart, commute}

-- the entry of an operation's own terminal
abbrev pub who : Operation → ℕ
who o = entry_of o.id

-- document 01's "ready", with what answers 2 and 8 ask of the operation alone
pub record Ready (s : List ℕ) (o : Operation) : Type 0 where
  pub own : entry o.deps (who o) ≡ entry s (who o)
  pub others : (k : ℕ) → entry o.deps k ≤ entry s k
  pub above : (k : ℕ) → entry o.deps k < counter_of o.id
  pub known : Known o.deps o.way

-- an order that readiness lets through, from what is seen
abbrev pub Goes : List ℕ → List Operation → Type 0
Goes s [] = Unit {0}
Goes s (o ∷ os) = Ready s o × Goes (raise s o.id) os

-- the same operations in another order
pub data Reordered : List Operation → List Operation → Type 0 where
  done : Reordered [] []
  move : {x : Operation} {xs : List Operation} (ys zs : List Operation) → Reordered xs (ys ++ zs) → Reordered (x ∷ xs) (ys ++ x ∷ zs)

-- seen only grows
pub grows : (s : List ℕ) (o : Operation) → length s ≡ 8 → Ready s o → (k : ℕ) → entry s k ≤ entry (raise s o.id) k
grows s o e r k = raise_grows s o.id e (omega (arith, r.own, r.above (who o))) k

-- an operation that is applied later has seen what is seen now of its own terminal
later : (s : List ℕ) (ys zs : List Operation) (x : Operation) → length s ≡ 8 → Goes s (ys ++ x ∷ zs)
    → entry s (who x) ≤ entry x.deps (who x)
later s [] zs x e g = omega (arith, g.0.own)
later s (y ∷ ys) zs x e g =
    omega (arith, grows s y e g.0 (who x), later (raise s y.id) ys zs x (raise-length s y.id e) g.1)

-- two ready operations of two terminals don't cover each other
apart : (s : List ℕ) (x y : Operation) → Ready s x → Ready s y → who x ≢ who y → Apart x y
apart s x y p q n = record {
  other = n;
  ahead = lt_uncovered x.deps y.id (omega (arith, p.others (who y), q.own, q.above (who y)));
  aback = lt_uncovered y.deps x.id (omega (arith, q.others (who x), p.own, p.above (who x)));
}

still_ready : (s : List ℕ) (x y : Operation) → length s ≡ 8 → Ready s x → Ready s y → who x ≢ who y → Ready (raise s x.id) y
still_ready s x y e p q n = record {
  own = q.own ∙ sym (raise_other s x.id (who y) (λ z. n (sym z)));
  others = λ k. omega (arith, q.others k, grows s x e p k);
  above = q.above;
  known = q.known;
}

-- of two operations of one terminal the later one is not ready before the earlier
two : (s : List ℕ) (ys zs : List Operation) (x y : Operation) → length s ≡ 8 → Ready s x → Ready s y
    → Goes (raise s y.id) (ys ++ x ∷ zs) → who x ≢ who y
two s ys zs x y e p q g z =
    let t = later (raise s y.id) ys zs x (raise-length s y.id e) g in
    let u = ap (λ k. entry (raise s y.id) k) z in
    omega (arith, t, u, p.own, raise-own s y.id e, q.own, q.above (who y), ap (λ k. entry s k) z)

-- an operation that is ready now can be taken to the front
front : (ys zs : List Operation) (x : Operation) (D : Document) → length D.seen ≡ 8 → Ready D.seen x
    → Goes D.seen (ys ++ x ∷ zs)
    → (apply_all (ys ++ x ∷ zs) D ≡ apply_all (ys ++ zs) (apply x D)) × Goes (raise D.seen x.id) (ys ++ zs)
unfolding apply apply_all
front [] zs x D e p g = (refl, g.1)
front (y ∷ ys) zs x D e p g =
    let s = D.seen in
    let q = g.0 in
    let n : who x ≢ who y = two s ys zs x y e p q g.1 in
    let n' : who y ≢ who x = λ z. n (sym z) in
    let r = front ys zs x (apply y D) (raise-length s y.id e) (still_ready s y x e q p n') g.1 in
    let turned = set_comm s (who y) (who x) (counter_of y.id) (counter_of x.id) n' in (
      r.0 ∙ ap (apply_all (ys ++ zs)) (commute x y D (apart s x y p q n) p.known q.known),
      (still_ready s x y e p q n, subst (λ t. Goes t (ys ++ zs)) turned r.1),
    )

pub converge : (xs ys : List Operation) (D : Document) → length D.seen ≡ 8 → Reordered xs ys
    → Goes D.seen xs → Goes D.seen ys → apply_all xs D ≡ apply_all ys D
unfolding apply apply_all
converge xs ys D e done g h = refl
converge xs ws D e (move {x = x} {xs = us} ys zs r) g h =
    let f = front ys zs x D e g.0 h in
    converge us (ys ++ zs) (apply x D) (raise-length D.seen x.id e) r g.1 f.1 ∙ sym f.0
