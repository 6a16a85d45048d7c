-- Receiving: an operation that comes too early waits or is refused; one that is taken is applied, and the waiting ones are settled.
-- Assumes nothing.
use Prim.Native.Nat.{ℕ, suc, ◌+◌, ◌≤◌, ◌<◌}
use native.Mathlib.Omega.{arith}
use mathlib.Core.Logic.{inl}
use Rattle.std.proofs.Math.Nat.{lt_of_not-le}
use mathlib.Core.Path.{◌≡◌, refl, sym, ap, subst, ◌∙◌}
use mathlib.Core.Bool.{Bool, true, false, cond, false≢true, true≢false}
use mathlib.Core.List.{List}
use lib.ListN.{length}
use borrow.Author.Tests.{le-leb, lt-leb}
use Rattle.std.specs.Prelude.{Option, Some, None, Ok, Err}
use Rattle.std.proofs.lemmas.Option.{none-some}
use Rattle.meaning.specs.Apply.{apply}
use Rattle.meaning.specs.Limits.{fits}
use Rattle.meaning.specs.Ways.{Operation}
use Rattle.meaning.specs.Valid.{ValidOperation}
use Rattle.meaning.specs.Message.{message}
use Rattle.meaning.specs.Answers.{only, receipt_answer}
use Rattle.meaning.specs.Judge.{not_above, repeated, own_deps_behind, astray, downward}
use Rattle.meaning.specs.Receive.{Terminal, ready_in, waits, Verdict, refused, taken, judge_ready}
use Rattle.meaning.specs.Receive.{judge_early, judge, finish, receive, settle}
use Rattle.meaning.specs.Promises.{Says, says, says_nothing}
use Rattle.meaning.specs.Answers.{Receipt}
use Rattle.meaning.specs.declared.Received.TheVariants as D
use Rattle.meaning.specs.declared.ReceiveError.TheVariants as R
use Rattle.theorems.specs.Invariant.{Sent}
use Rattle.theorems.specs.Members.{all_put}
use Rattle.theorems.specs.Determined.{receives_once}
use Rattle.message.specs.Means.{Means}
use Rattle.message.specs.Promises.{Answers, ReadsMessage}
use Rattle.message.specs.declared.Operation as Held
use Rattle.judging.specs.Judging.{Judgement, is_taken, by_counters, ready_verdict, verdict_by, verdict}
use Rattle.judging.specs.Errors.{receive_error}
use Rattle.judging.specs.declared.Refusal.{Refusal}
use Rattle.judging.specs.declared.Refusal.TheVariants as F
use Rattle.judging.specs.declared.Readiness.TheVariants as B
use Rattle.judging.specs.declared.Unfit.TheVariants as Y
use Rattle.apply.specs.Applying.{Applies}
use Rattle.waiting.specs.Waits.{id_of, TellsWaits, Puts}
use Rattle.keeping.specs.Keeping.{Keeps, within_memory, keeps_within}
use Rattle.keeping.specs.Once.{keeps_once}
use Rattle.keeping.specs.declared.Document as K
use Rattle.keeping.specs.declared.Memory.{Memory}
use Rattle.settling.specs.Settling.{Settles}
use Rattle.settling.specs.declared.Settled.{Settled}
use Rattle.settling.proofs.Sweeping.{holding}
use Rattle.terminal.specs.Promises.{Comes, Awaits, Kept, Receiving}

-- What a verdict on the document is for the terminal; e is what an early operation comes to.
abbrev sort : Verdict → Judgement → Verdict
sort e (Ok B.Ready) = taken
sort e (Ok B.Early) = e
sort e (Err r) = refused (receipt_answer (Err (receive_error r)))

sorted : (n r c d a w f : Bool) (e : Verdict)
    → cond n (refused (only 2)) (cond r (refused (only 3)) (cond c (refused (only 4))
    (cond d (cond a (refused (only 8)) (cond w (refused (only 9)) (cond f taken (refused (only 10))))) e)))
    ≡ sort e (verdict_by
    (cond n (Err F.Counter) (cond r (Err F.Repeat) (cond c (Err F.OwnDeps) (cond d (Ok B.Ready) (Ok B.Early)))))
    (cond a (Err Y.NoElement) (cond w (Err Y.NotSmaller) (cond f (Ok tt) (Err Y.NoRoom)))))
sorted true r c d a w f e = refl
sorted false true c d a w f e = refl
sorted false false true d a w f e = refl
sorted false false false true true w f e = refl
sorted false false false true false true f e = refl
sorted false false false true false false true e = refl
sorted false false false true false false false e = refl
sorted false false false false a w f e = refl

judge_sorted : (o : Operation) (X : Terminal) → judge o X ≡ sort (judge_early o X.waiting) (verdict o X.document)
unfolding judge judge_ready verdict by_counters ready_verdict
judge_sorted o X =
    let D = X.document in
    sorted (not_above o) (repeated D.seen o) (own_deps_behind D.seen o) (ready_in D o) (astray D o) (downward o) (fits (apply o D)) _

-- by the verdict that was found
judge-is : (o : Operation) (X : Terminal) (v : Judgement) → verdict o X.document ≡ v → judge o X ≡ sort (judge_early o X.waiting) v
judge-is o X v e = judge_sorted o X ∙ ap (λ z. sort (judge_early o X.waiting) z) e

abbrev is_early : Judgement → Bool
is_early (Ok B.Ready) = false
is_early (Ok B.Early) = true
is_early (Err r) = false

early_above : (o : Operation) (X : Terminal) → verdict o X.document ≡ Ok B.Early → not_above o ≡ false
unfolding verdict by_counters
early_above o X e = go (not_above o) refl
  where
    go : (b : Bool) → not_above o ≡ b → not_above o ≡ false
    go false q = q
    go true q = absurd (false≢true (ap is_early (rw q at e)))

-- An operation that comes too early.
module _ (M : Memory) (op : Held.Operation) (b : Bool) (W : TellsWaits M.waiting M.count op.act.id b) where
  told : (X : Terminal) (o : Operation) → Keeps M X → Means op o → b ≡ waits o.id X.waiting
  unfolding TellsWaits
  told X o K m = rw (← m.id) (W X.waiting K.waiting)

  pub awaits_again : b ≡ true → Awaits M op (Err R.WaitsAlready) M
  unfolding finish judge_early
  awaits_again e = record {
    waits = λ X o K m h.
        let q : waits o.id X.waiting ≡ true = sym (told X o K m) ∙ e in
        record { answers = rw q refl; keeps = rw q K };
    stays = λ _. refl;
    document = refl;
  }

  module _ (e : b ≡ false) (t : List ℕ) (r : Option ℕ) (P : Puts op M.waiting M.count t r) where
    free : (X : Terminal) (o : Operation) → Keeps M X → Means op o → waits o.id X.waiting ≡ false
    free X o K m = sym (told X o K m) ∙ e

    -- where nothing is put in, there is no room
    none : (X : Terminal) (o : Operation) → Keeps M X → Means op o → Sent o → r ≡ None → 64 ≤ length X.waiting
    none X o K m h y =
        let l : 63 < length X.waiting = lt_of_not-le (λ s.
        rw y at (P.waits X.waiting o m h.valid K.waiting (free X o K m) (omega (arith, s, K.waiting.count)))) in
        omega (arith, l)

    pub awaits_full : r ≡ None → Awaits M op (Err R.WaitingFull) (holding M t M.count)
    unfolding finish judge_early
    awaits_full y =
        let s : holding M t M.count ≡ M = ap (λ z. holding M z M.count) (P.nothing y) in
        rw s (record {
          waits = λ X o K m h.
              let f = le-leb 64 (length X.waiting) (none X o K m h y) in
              record { answers = rw (free X o K m, f) refl; keeps = rw (free X o K m, f) K };
          stays = λ _. refl;
          document = refl;
        })

    -- where it is, there was
    some : (X : Terminal) (n : ℕ) → r ≡ Some n → Keeps M X → length X.waiting < 64
    some X n y K =
        lt_of_not-le (λ l. none-some n (sym (P.stays (inl (omega (arith, l, K.waiting.count)))).1 ∙ y))

    pub awaits_put : (n : ℕ) → r ≡ Some n → Awaits M op (Ok D.Waiting) (holding M t n)
    unfolding finish judge_early
    awaits_put n y = record {
      waits = λ X o K m h.
          let q = free X o K m in
          let l = some X n y K in
          let f = lt-leb 64 (length X.waiting) l in
          record {
            answers = rw (q, f) refl;
            keeps = rw (q, f) (record {
              document = K.document;
              waiting = rw y at (P.waits X.waiting o m h.valid K.waiting q (omega (arith, l, K.waiting.count)));
              sent = all_put Sent id_of o X.waiting h K.sent;
            });
          };
      stays = λ u. absurd u;
      document = refl;
    }

-- Memory that counts more than has room in its tables.
pub receives_beyond : (M : Memory) (bytes : List ℕ) → within_memory M ≡ false → Receiving M bytes (Err R.NoRoom) M
receives_beyond M bytes e = record {
  receives = λ X K. absurd (true≢false (sym (keeps_within K) ∙ e));
  beyond = λ _. (refl, refl);
  stays = λ _. refl;
}

-- A message.
module _ (M : Memory) (bytes : List ℕ) (room : within_memory M ≡ true) (r : Option Held.Operation) (S : ReadsMessage bytes r) where
  -- the memory has room
  inside : {a : Receipt} {N : Memory} → within_memory M ≡ false → (a ≡ Err R.NoRoom) × (N ≡ M)
  inside e = absurd (true≢false (sym room ∙ e))

  -- the operation that was read, and what it comes to on the document
  module _ (op : Held.Operation) (is : r ≡ Some op) (j : Judgement) (d : K.Document) (A : Applies M.document op j d) where
    abbrev after : Memory
    after = record { document = d; waiting = M.waiting; count = M.count }

    -- what is left to show
    reading : (X : Terminal) (a : Receipt) (N : Memory)
        → ((o : Operation) → ValidOperation o → Means op o → Comes a N (receive o X)) → Kept X bytes a N
    reading X a N h = go S.says (rw is at S.answers)
      where
        go : (y : Says ValidOperation message bytes) → Answers Means (Some op) y → Kept X bytes a N
        go (says o v e) m =
            let c = h o v m in
            record {
              exit = (receive o X).terminal;
              receives = record { reads = says o v e; answers = c.answers; leaves = refl };
              keeps = c.keeps;
            }
        go (says_nothing n) m = absurd m

    verdict-is : (X : Terminal) → Keeps M X → (o : Operation) → ValidOperation o → Means op o → verdict o X.document ≡ j
    verdict-is X K o v m = sym (A.answers X.document o K.document m v)

    -- an operation that isn't taken leaves the memory as it was
    same : is_taken j ≡ false → after ≡ M
    same e = ap (λ z. record { document = z; waiting = M.waiting; count = M.count }) (A.refuses e)

    pub receives_taken : j ≡ Ok B.Ready → (s : Settled) (N : Memory) → Settles after s N
        → Receiving M bytes (Ok (D.Applied (s.applied + 1) s.dropped)) N
    unfolding receive finish
    receives_taken y s N T = record {
      receives = λ X K. reading X _ N (λ o v m.
          let q : judge o X ≡ taken = judge-is o X _ (verdict-is X K o v m ∙ y) in
          let Z : Terminal = record { document = apply o X.document; waiting = X.waiting } in
          let k = A.takes X.document o K.document m v (ap (λ z. is_taken z) y) in
          let t = T.settles Z (record { document = k; waiting = K.waiting; sent = K.sent }) in
          let n : s.applied + 1 ≡ suc (length (settle Z).applied) = omega (arith, t.applied) in
          rw q (record { answers = rw (n, t.dropped) refl; keeps = t.keeps }));
      beyond = inside;
      stays = λ u. absurd u;
    }

    pub receives_early : j ≡ Ok B.Early → (a : Receipt) (N : Memory) → Awaits after op a N → Receiving M bytes a N
    unfolding receive
    receives_early y a N W =
        let e = same (ap (λ z. is_taken z) y) in
        record {
          receives = λ X K. reading X a N (λ o v m.
              let w : verdict o X.document ≡ Ok B.Early = verdict-is X K o v m ∙ y in
              rw (judge-is o X _ w) (W.waits X o (rw e K) m (record { valid = v; above = early_above o X w })));
          beyond = inside;
          stays = λ u. W.stays u ∙ e;
        }

    pub receives_refused : (f : Refusal) → j ≡ Err f → Receiving M bytes (Err (receive_error f)) after
    unfolding receive finish
    receives_refused f y =
        let e = same (ap (λ z. is_taken z) y) in
        record {
          receives = λ X K. reading X _ after (λ o v m.
              let q : judge o X ≡ refused (receipt_answer (Err (receive_error f))) = judge-is o X _ (verdict-is X K o v m ∙ y) in
              rw q (record { answers = refl; keeps = rw e K }));
          beyond = inside;
          stays = λ u. e;
        }

-- Two results of receiving are equal, of every memory that keeps a terminal, and of memory that has no room: the answer, and every word.
module _ {M N P : Memory} {bytes : List ℕ} {a b : Receipt} (f : Receiving M bytes a N) (g : Receiving M bytes b P) where
  pub receive_once : (X : Terminal) → Keeps M X → (a ≡ b) × (N ≡ P)
  receive_once X K =
      let m = f.receives X K in
      let n = g.receives X K in
      let e = receives_once X bytes a b m.exit n.exit m.receives n.receives in
      (e.0, keeps_once (subst (Keeps N) e.1 m.keeps) n.keeps)

  pub receive_once_beyond : within_memory M ≡ false → (a ≡ b) × (N ≡ P)
  receive_once_beyond e = ((f.beyond e).0 ∙ sym (g.beyond e).0, (f.beyond e).1 ∙ sym (g.beyond e).1)
