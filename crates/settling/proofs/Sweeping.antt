-- Sweeping the waiting operations: those passed are rid of the dead, and it is known which of them is the first that can be applied.
-- Assumes nothing.
use Prim.Native.Nat.{ℕ, ◌+◌, ◌≤◌, ◌<◌}
use native.Mathlib.Omega.{arith}
use mathlib.Core.Path.{◌≡◌, refl, sym, ap, ◌∙◌}
use mathlib.Core.Bool.{true, false, not}
use mathlib.Core.List.{List, [], ◌∷◌, ◌++◌, append_assoc, append-nil}
use lib.ListN.{length, length-append}
use Rattle.std.specs.Prelude.{Option, Some, None, is_some}
use Rattle.std.proofs.lemmas.Option.{none-some, same_Some}
use Rattle.meaning.specs.Sets.{keep}
use Rattle.meaning.specs.Places.{Document}
use Rattle.meaning.specs.Ways.{Operation}
use Rattle.meaning.specs.Receive.{Terminal, dead, able}
use Rattle.theorems.specs.Invariant.{Sent}
use Rattle.theorems.specs.Keep.{keep_nil, keep_yes, keep_no, keep_append}
use Rattle.judging.specs.Judging.{Judgement, is_taken, verdict}
use Rattle.waiting.specs.Waits.{Holds, TakesOut}
use Rattle.waiting.proofs.Holds.{all-at, all_but}
use Rattle.keeping.specs.declared.Memory.{Memory}
use Rattle.settling.specs.Verdicts.{deadly}
use Rattle.keeping.specs.Keeping.{Keeps}
use Rattle.settling.specs.Settling.{Looks, Spot, none, Rid}
use Rattle.settling.proofs.Verdicts.{deadly-verdict, taken_verdict}
use Rattle.settling.proofs.Picking.{spot_more, spot_past, spot_new}

-- the operations that aren't dead
abbrev pub live : Document → List Operation → List Operation
live D os = keep (λ o. not (dead D o)) os

live-dead : (D : Document) (A : List Operation) (o : Operation) → dead D o ≡ true → live D (A ++ o ∷ []) ≡ live D A
live-dead D A o e =
    keep_append (λ o. not (dead D o)) A (o ∷ [])
    ∙ (ap (λ z. live D A ++ z) (keep_no (λ o. not (dead D o)) o [] (ap not e) ∙ keep_nil (λ o. not (dead D o))) ∙ append-nil (live D A))

live_alive : (D : Document) (A : List Operation) (o : Operation) → dead D o ≡ false → live D (A ++ o ∷ []) ≡ live D A ++ o ∷ []
live_alive D A o e =
    keep_append (λ o. not (dead D o)) A (o ∷ [])
    ∙ ap (λ z. live D A ++ z) (keep_yes (λ o. not (dead D o)) o [] (ap not e) ∙ ap (o ∷◌) (keep_nil (λ o. not (dead D o))))

-- the terminal with these waiting operations
abbrev pub waiting_for : Terminal → List Operation → Terminal
waiting_for X os = record { document = X.document; waiting = os }

-- memory with these waiting operations, so many
abbrev pub holding : Memory → List ℕ → ℕ → Memory
holding M t n = record { document = M.document; waiting = t; count = n }

-- at i: the operations that were passed, and the rest
pub record Sweeping (M : Memory) (X : Terminal) (i : ℕ) (f : Option ℕ) : Type 0 where
  pub passed : List Operation
  pub rest : List Operation
  pub whole : X.waiting ≡ passed ++ rest
  pub keeps : Keeps M (waiting_for X (live X.document passed ++ rest))
  pub place : i ≡ length (live X.document passed)
  pub first : Spot (able X.document) (live X.document passed) f

pub begins : (M : Memory) (X : Terminal) → Keeps M X → Sweeping M X 0 None
begins M X k =
    let e = keep_nil (λ o. not (dead X.document o)) in
    record {
      passed = [];
      rest = X.waiting;
      whole = refl;
      keeps = rw e k;
      place = rw e refl;
      first = none (rw e tt);
    }

-- past the last
pub ends : (M : Memory) (X : Terminal) (i : ℕ) (f : Option ℕ) → Sweeping M X i f → M.count ≤ i → Rid X f M
ends M X i f w l = go w.rest w.whole w.keeps
  where
    go : (R : List Operation) → X.waiting ≡ w.passed ++ R → Keeps M (waiting_for X (live X.document w.passed ++ R)) → Rid X f M
    go [] e h =
        let q : X.waiting ≡ w.passed = e ∙ append-nil w.passed in
        record { keeps = rw (q, ← append-nil (live X.document w.passed)) h; first = rw q w.first }
    go (o ∷ R) e h =
        absurd (omega (arith, w.place, h.waiting.count, length-append (live X.document w.passed) (o ∷ R)))

-- The operation at i.
module _ (M : Memory) (X : Terminal) (i : ℕ) (f : Option ℕ) where
  -- it is the first of the rest
  record Turn : Type 0 where
    passed : List Operation
    one : Operation
    rest : List Operation
    whole : X.waiting ≡ (passed ++ one ∷ []) ++ rest
    keeps : Keeps M (waiting_for X (live X.document passed ++ one ∷ rest))
    place : i ≡ length (live X.document passed)
    first : Spot (able X.document) (live X.document passed) f

  turn : Sweeping M X i f → i < M.count → Turn
  turn w l = go w.rest w.whole w.keeps
    where
      go : (R : List Operation) → X.waiting ≡ w.passed ++ R → Keeps M (waiting_for X (live X.document w.passed ++ R)) → Turn
      go [] e h = absurd (omega (arith, w.place, h.waiting.count, length-append (live X.document w.passed) []))
      go (o ∷ R) e h = record {
        passed = w.passed;
        one = o;
        rest = R;
        whole = e ∙ sym (append_assoc w.passed (o ∷ []) R);
        keeps = h;
        place = w.place;
        first = w.first;
      }

  above : (w : Turn) → Sent w.one
  above w = all-at Sent (live X.document w.passed) w.rest w.one w.keeps.sent

  -- one is there
  pub looked : Looks M i None → Sweeping M X i f → i < M.count → ⊥
  looked L S l =
      let w = turn S l in
      none-some _ (L _ (live X.document w.passed) w.rest w.one w.keeps refl w.place)

  module _ (v : Judgement) (L : Looks M i (Some v)) (S : Sweeping M X i f) (l : i < M.count) where
    judged : (w : Turn) → v ≡ verdict w.one X.document
    judged w = same_Some _ _ (L _ (live X.document w.passed) w.rest w.one w.keeps refl w.place)

    is-dead : (w : Turn) → deadly v ≡ dead X.document w.one
    is-dead w = ap (λ z. deadly z) (judged w) ∙ deadly-verdict X.document w.one (above w).above

    -- it is dropped
    module _ (t : List ℕ) (r : Option ℕ) (out : TakesOut M.waiting M.count i t r) where
      gone : (w : Turn) → Holds t r (live X.document w.passed ++ w.rest)
      gone w = out.waits (live X.document w.passed) w.rest w.one w.keeps.waiting w.place

      -- one is taken out
      pub gone-one : r ≡ None → ⊥
      gone-one e = rw e at (gone (turn S l))

      pub drops : (n : ℕ) → r ≡ Some n → deadly v ≡ true → Sweeping (holding M t n) X i f
      drops n y d =
          let w = turn S l in
          let e = live-dead X.document w.passed w.one (sym (is-dead w) ∙ d) in
          record {
            passed = w.passed ++ w.one ∷ [];
            rest = w.rest;
            whole = w.whole;
            keeps = rw e (record {
              document = w.keeps.document;
              waiting = rw y at (gone w);
              sent = all_but Sent (live X.document w.passed) w.rest w.one w.keeps.sent;
            });
            place = rw e w.place;
            first = rw e w.first;
          }

    -- it stays
    module _ (d : deadly v ≡ false) where
      stays : (g : Option ℕ) (w : Turn) → Spot (able X.document) (live X.document w.passed ++ w.one ∷ []) g → Sweeping M X (i + 1) g
      stays g w h =
          let e = live_alive X.document w.passed w.one (sym (is-dead w) ∙ d) in
          let n = length-append (live X.document w.passed) (w.one ∷ []) in
          record {
            passed = w.passed ++ w.one ∷ [];
            rest = w.rest;
            whole = w.whole;
            keeps = rw (e, append_assoc (live X.document w.passed) (w.one ∷ []) w.rest) w.keeps;
            place = rw e (omega (arith, w.place));
            first = rw e h;
          }

      taken-is : (w : Turn) → is_taken v ≡ able X.document w.one
      taken-is w = ap (λ z. is_taken z) (judged w) ∙ taken_verdict X.document w.one (above w).above (sym (is-dead w) ∙ d)

      pub passes : is_some f ≡ true → Sweeping M X (i + 1) f
      passes e = let w = turn S l in stays f w (spot_more (able X.document) _ f w.one w.first e)

      pub notes : is_some f ≡ false → is_taken v ≡ true → Sweeping M X (i + 1) (Some i)
      notes e y = let w = turn S l in stays (Some i) w (spot_new (able X.document) _ f i w.one w.first e w.place (sym (taken-is w) ∙ y))

      pub passes_idle : is_taken v ≡ false → Sweeping M X (i + 1) f
      passes_idle y = let w = turn S l in stays f w (spot_past (able X.document) _ f w.one w.first (sym (taken-is w) ∙ y))
