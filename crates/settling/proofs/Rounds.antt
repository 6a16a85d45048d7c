-- A round of settling, from a sweep and an operation that is applied; and settling, round by round.
-- Assumes nothing.
use Prim.Native.Nat.{ℕ, ◌+◌, ◌-◌}
use native.Mathlib.Omega.{arith}
use mathlib.Core.Path.{◌≡◌, refl, ap, ◌∙◌}
use mathlib.Core.Bool.{true, false, not, false≢true, true≢false}
use mathlib.Core.List.{List, ◌∷◌, ◌++◌}
use lib.ListN.{length}
use borrow.Author.Tests.{not-true}
use Rattle.std.specs.Prelude.{Option, Some, None}
use Rattle.meaning.specs.Apply.{apply}
use Rattle.meaning.specs.Receive.{Terminal, dead, able, settle}
use Rattle.theorems.specs.Invariant.{Sent}
use Rattle.theorems.specs.Members.{all_pass}
use Rattle.theorems.specs.Settling.{left, next, next-all}
use Rattle.message.specs.declared.Operation as Held
use Rattle.keeping.specs.Storing.{StoresIn}
use Rattle.keeping.specs.declared.Document as K
use Rattle.judging.specs.Judging.{is_taken, verdict}
use Rattle.apply.specs.Applying.{TakesOn}
use Rattle.waiting.specs.Waits.{Waits, Holds, Tells, TakesOut}
use Rattle.waiting.proofs.Holds.{all-at}
use Rattle.keeping.specs.declared.Memory.{Memory}
use Rattle.settling.specs.declared.Rounded.{Rounded}
use Rattle.keeping.specs.Keeping.{Keeps}
use Rattle.settling.specs.Settling.{Sweeps, Rounds, Rests}
use Rattle.settling.proofs.Verdicts.{taken_verdict}
use Rattle.settling.proofs.Sweeping.{holding}
use Rattle.settling.proofs.Picking.{Spotted, spotted, spot_nobody, without_at, settle-over, settle_on}

module _ (M : Memory) (f : Option ℕ) (N : Memory) (S : Sweeps M f N) where
  abbrev dropped : ℕ
  dropped = M.count - N.count

  gone-is : (X : Terminal) → Keeps M X → dropped ≡ length X.waiting - length (left X)
  gone-is X K =
      let a = K.waiting.count in
      let b = (S.sweeps X K).keeps.waiting.count in
      omega arith

  -- none can be applied
  pub rounds_over : f ≡ None → Rounds M (record { applied = false; dropped = dropped }) N
  rounds_over e = record {
    fewer = omega (arith, S.fewer);
    less = λ b. absurd (false≢true b);
    rounds = λ X K. record {
      gone = gone-is X K;
      over = λ b. record { nobody = spot_nobody (able X.document) _ (rw e at (S.sweeps X K).first); keeps = (S.sweeps X K).keeps };
      on = λ b. absurd (false≢true b);
    };
  }

  module _ (k : ℕ) (e : f ≡ Some k) where
    one : (X : Terminal) → Keeps M X → Spotted (able X.document) (left X) k
    one X K = spotted (able X.document) _ _ (rw e at (S.sweeps X K).first)

    -- what waits, with the one to be applied in its place
    placed : (X : Terminal) (K : Keeps M X) → Waits N.waiting N.count ((one X K).ahead ++ (one X K).one ∷ (one X K).behind)
    placed X K = rw (one X K).whole at (S.sweeps X K).keeps.waiting

    -- memory that kept a terminal has one there
    pub rounds_none : Tells N.waiting N.count k None → Rounds M (record { applied = false; dropped = dropped }) N
    unfolding Tells
    rounds_none read = record {
      fewer = omega (arith, S.fewer);
      less = λ b. absurd (false≢true b);
      rounds = λ X K. absurd (read (one X K).ahead (one X K).behind (one X K).one (placed X K) (one X K).place);
    }

    module _ (t : List ℕ) (r : Option ℕ) (out : TakesOut N.waiting N.count k t r) where
      removed : (X : Terminal) (K : Keeps M X) → Holds t r ((one X K).ahead ++ (one X K).behind)
      removed X K = out.waits (one X K).ahead (one X K).behind (one X K).one (placed X K) (one X K).place

      -- and it is taken out
      pub rounds_cut : r ≡ None → Rounds M (record { applied = false; dropped = dropped }) (holding N t N.count)
      rounds_cut y = record {
        fewer = omega (arith, S.fewer);
        less = λ b. absurd (false≢true b);
        rounds = λ X K. absurd (rw y at (removed X K));
      }

      module _ (op : Held.Operation) (read : Tells N.waiting N.count k (Some op)) (d : K.Document) (A : TakesOn N.document op d) where
        -- what is known of the one that is applied
        alive : (X : Terminal) (K : Keeps M X) → dead X.document (one X K).one ≡ false
        alive X K =
            let q = one X K in
            not-true _ (all-at (λ x. not (dead X.document x) ≡ true) q.ahead q.behind q.one
            (rw q.whole at (all_pass (λ x. not (dead X.document x)) X.waiting)))

        sent : (X : Terminal) (K : Keeps M X) → Sent (one X K).one
        sent X K = let q = one X K in all-at Sent q.ahead q.behind q.one (rw q.whole at (S.sweeps X K).keeps.sent)

        taken : (X : Terminal) (K : Keeps M X) → is_taken (verdict (one X K).one X.document) ≡ true
        taken X K = let q = one X K in taken_verdict X.document q.one (sent X K).above (alive X K) ∙ q.passes

        stored : (X : Terminal) (K : Keeps M X) → StoresIn d (apply (one X K).one X.document)
        unfolding Tells
        stored X K =
            let q = one X K in
            let m = read q.ahead q.behind q.one (placed X K) q.place in
            A X.document q.one (S.sweeps X K).keeps.document m (sent X K).valid (taken X K)

        pub rounds_on : (n : ℕ) → r ≡ Some n
            → Rounds M (record { applied = true; dropped = dropped }) (record { document = d; waiting = t; count = n })
        rounds_on n y = record {
          fewer = omega (arith, S.fewer, out.fewer n y);
          less = λ b. omega (arith, S.fewer, out.fewer n y);
          rounds = λ X K.
              let q = one X K in
              record {
                gone = gone-is X K;
                over = λ b. absurd (true≢false b);
                on = λ b. record {
                  one = q.one;
                  picked = q.first;
                  keeps = record {
                    document = stored X K;
                    waiting = rw (q.whole, without_at q.ahead q.behind q.one (placed X K).ascending) (rw y at (removed X K));
                    sent = next-all Sent X q.one K.sent;
                  };
                };
              };
        }

-- Settling: so far some were applied and some dropped, and what is left to settle is `now`.
pub record Underway (X : Terminal) (M : Memory) (applied dropped : ℕ) : Type 0 where
  pub now : Terminal
  pub keeps : Keeps M now
  pub same : (settle X).terminal ≡ (settle now).terminal
  pub applied-all : length (settle X).applied ≡ applied + length (settle now).applied
  pub dropped_all : (settle X).dropped ≡ dropped + (settle now).dropped

pub underway : (X : Terminal) (M : Memory) → Keeps M X → Underway X M 0 0
underway X M K = record { now = X; keeps = K; same = refl; applied-all = omega arith; dropped_all = omega arith }

module _ (X : Terminal) (M N : Memory) (a d : ℕ) (r : Rounded) (R : Rounds M r N) (Y : Underway X M a d) where
  pub goes_on : r.applied ≡ true → Underway X N (a + 1) (d + r.dropped)
  goes_on e =
      let u = R.rounds Y.now Y.keeps in
      let n = u.on e in
      let q = settle_on Y.now n.one n.picked in
      record {
        now = next Y.now n.one;
        keeps = n.keeps;
        same = Y.same ∙ ap (λ z. z.terminal) q;
        applied-all = omega (arith, Y.applied-all, ap (λ z. length z.applied) q);
        dropped_all = omega (arith, Y.dropped_all, ap (λ z. z.dropped) q, u.gone);
      }

  pub comes_to_rest : r.applied ≡ false → Rests X (record { applied = a; dropped = d + r.dropped }) N
  comes_to_rest e =
      let u = R.rounds Y.now Y.keeps in
      let n = u.over e in
      let q = settle-over Y.now n.nobody in
      record {
        keeps = rw (Y.same, q) n.keeps;
        applied = omega (arith, Y.applied-all, ap (λ z. length z.applied) q);
        dropped = omega (arith, Y.dropped_all, ap (λ z. z.dropped) q, u.gone);
      }
