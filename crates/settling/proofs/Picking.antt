-- The first operation that passes a test: where it stands, and the operations without it. Settling by its first round.
-- Assumes nothing.
use Prim.Native.Nat.{ℕ, ◌+◌, ◌-◌, ◌<◌}
use native.Mathlib.Omega.{arith}
use mathlib.Core.Path.{◌≡◌, refl, ap, ◌∙◌}
use mathlib.Core.Bool.{Bool, true, false, not, false≢true, true≢false}
use mathlib.Core.List.{List, [], ◌∷◌, ◌++◌, append_assoc}
use mathlib.Core.Logic.{inl, inr}
use lib.Dec.{eqb}
use lib.ListN.{length}
use borrow.Author.Tests.{eq-eqb, ne_eqb}
use Rattle.std.specs.Prelude.{Option, Some, None, is_some}
use Rattle.meaning.specs.Sets.{keep}
use Rattle.meaning.specs.Ways.{Operation}
use Rattle.meaning.specs.Members.{All, Has, Ascending}
use Rattle.meaning.specs.Receive.{Terminal, dead, able, nobody, picked, first, without, Settled, onward, settle_in, settle}
use Rattle.theorems.specs.Keep.{keep_yes, keep_no}
use Rattle.theorems.specs.Members.{all_append, keep_all, keep_empty, keep_length, has_right}
use Rattle.theorems.specs.Picking.{picked_shorter}
use Rattle.theorems.specs.Settling.{left, rid, next}
use Rattle.theorems.specs.Rounds.{bound_enough}
use Rattle.waiting.specs.Waits.{id_of}
use Rattle.settling.specs.Settling.{Spot, none, spot}

-- Where the first is.
module _ (p : Operation → Bool) where
  first-at : (A R : List Operation) (o : Operation) → All (λ x. p x ≡ false) A → p o ≡ true → first (keep p (A ++ o ∷ R)) ≡ picked o
  unfolding first
  first-at [] R o h e = rw (keep_yes p o R e)
  first-at (x ∷ A) R o h e = rw (keep_no p x (A ++ o ∷ R) h.0) (first-at A R o h.1 e)

  -- what is known where one was found
  pub record Spotted (os : List Operation) (k : ℕ) : Type 0 where
    pub ahead : List Operation
    pub behind : List Operation
    pub one : Operation
    pub whole : os ≡ ahead ++ one ∷ behind
    pub place : k ≡ length ahead
    pub passes : p one ≡ true
    pub first : first (keep p os) ≡ picked one

  pub spotted : (os : List Operation) (k : ℕ) → Spot p os (Some k) → Spotted os k
  spotted os k (spot _ A R o w q h x) = record {
    ahead = A;
    behind = R;
    one = o;
    whole = w;
    place = q;
    passes = x;
    first = rw w (first-at A R o h x);
  }

  pub spot_nobody : (os : List Operation) → Spot p os None → first (keep p os) ≡ nobody
  unfolding first
  spot_nobody os (none h) = rw (keep_empty p os h)

  -- one more is looked at: where one was found already, that stays the first
  pub spot_more : (os : List Operation) (f : Option ℕ) (o : Operation) → Spot p os f → is_some f ≡ true → Spot p (os ++ o ∷ []) f
  spot_more os None o h e = absurd (false≢true e)
  spot_more os (Some k) o (spot _ A R x w q h y) e = spot k A (R ++ o ∷ []) x (rw w (append_assoc A (x ∷ R) (o ∷ []))) q h y

  -- one that doesn't pass
  pub spot_past : (os : List Operation) (f : Option ℕ) (o : Operation) → Spot p os f → p o ≡ false → Spot p (os ++ o ∷ []) f
  spot_past os None o (none h) e = none (all_append _ os (o ∷ []) h (e, tt))
  spot_past os (Some k) o h e = spot_more os (Some k) o h refl

  -- one that passes, where none did
  pub spot_new : (os : List Operation) (f : Option ℕ) (i : ℕ) (o : Operation) → Spot p os f → is_some f ≡ false → i ≡ length os
      → p o ≡ true → Spot p (os ++ o ∷ []) (Some i)
  spot_new os None i o (none h) e q y = spot i os [] o refl q h y
  spot_new os (Some k) i o h e q y = absurd (true≢false e)

-- Without the one with an id.
module _ (i : ℕ) where
  above_others : (xs : List Operation) → ((j : ℕ) → Has id_of j xs → i < j) → All (λ x. not (eqb i x.id) ≡ true) xs
  above_others [] h = tt
  above_others (x ∷ xs) h =
      let q = h x.id (inl refl) in
      (ap not (ne_eqb i x.id (λ e. omega arith)), above_others xs (λ j m. h j (inr m)))

pub without_at : (A R : List Operation) (o : Operation) → Ascending id_of (A ++ o ∷ R) → without o.id (A ++ o ∷ R) ≡ A ++ R
unfolding without
without_at [] R o h =
    keep_no (λ x. not (eqb o.id x.id)) o R (ap not (eq-eqb o.id o.id refl))
    ∙ keep_all (λ x. not (eqb o.id x.id)) R (above_others o.id R h.0)
without_at (x ∷ A) R o h =
    let q = h.0 o.id (has_right id_of o.id A (o ∷ R) (inl refl)) in
    keep_yes (λ x. not (eqb o.id x.id)) x (A ++ o ∷ R) (ap not (ne_eqb o.id x.id (λ e. omega arith)))
    ∙ ap (x ∷◌) (without_at A R o h.1)

-- Settling by its first round.
module _ (X : Terminal) where
  abbrev pub gone : ℕ
  gone = length X.waiting - length (left X)

  pub settle-over : first (keep (able X.document) (left X)) ≡ nobody
      → settle X ≡ record { terminal = rid X; applied = []; dropped = gone }
  unfolding settle settle_in onward
  settle-over e = rw e

  -- one is applied: the rest of the rounds are those of the terminal after it
  abbrev pub after : (o : Operation) → Settled → Settled
  after o r = record { terminal = r.terminal; applied = o ∷ r.applied; dropped = gone + r.dropped }

  opens : (o : Operation) → first (keep (able X.document) (left X)) ≡ picked o
      → settle X ≡ after o (settle_in (length X.waiting) (next X o))
  unfolding settle settle_in onward
  opens o e = rw e

  pub settle_on : (o : Operation) → first (keep (able X.document) (left X)) ≡ picked o → settle X ≡ after o (settle (next X o))
  settle_on o e =
      opens o e
      ∙ ap (after o)
      (bound_enough (length X.waiting) (next X o)
      (omega (arith, picked_shorter (able X.document) (left X) o e, keep_length (λ o. not (dead X.document o)) X.waiting)))
