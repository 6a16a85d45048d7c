-- 2, 3, 4 and whether an operation is ready, test by test; and the whole verdict.
-- Assumes nothing.
use Prim.Native.Nat.{ℕ}
use mathlib.Core.Path.{◌≡◌, refl, sym, ap, ◌∙◌}
use mathlib.Core.Bool.{Bool, true, false, cond, false≢true}
use mathlib.Core.List.{List}
use Rattle.std.specs.Prelude.{Ok, Err}
use borrow.Author.Tests.{leb-false}
use Rattle.meaning.specs.Ids.{counter_of, entry_of, entry, ready}
use Rattle.meaning.specs.Places.{Document}
use Rattle.meaning.specs.Judge.{not_above, repeated, own_deps_behind}
use Rattle.meaning.specs.Receive.{ready_in}
use Rattle.meaning.specs.Ways as M
use Rattle.meaning.specs.declared.Counters.{Counters}
use Rattle.counters.specs.Counted.{Says}
use Rattle.message.specs.Means.{Means}
use Rattle.message.specs.declared.Operation.{Operation}
use Rattle.tables.specs.declared.Tables.{Tables}
use Rattle.tables.specs.declared.Counts.{Counts}
use Rattle.tables.specs.declared.Position.{Position}
use Rattle.keeping.specs.Storing.{Stores}
use Rattle.judging.specs.Judging.{Judgement, ReadyJudgement, is_taken, judgement_of, ready_verdict, by_counters, verdict_by, verdict, Newer, Tops}
use Rattle.judging.specs.Judging.{JudgesCounters, JudgesReady, Judges}
use Rattle.judging.specs.declared.Refusal.{Refusal}
use Rattle.judging.specs.declared.Refusal.TheVariants as F
use Rattle.judging.specs.declared.Readiness.TheVariants as B

pub newer : (D : Document) (o : M.Operation) → repeated D.seen o ≡ false → Newer D o
unfolding repeated
newer D o e = leb-false (counter_of o.id) (entry D.seen (entry_of o.id)) e

pub here_stores : (T : Tables) (c : Counts) (s : List ℕ) (D : Document) → Stores T c s D → Stores T c D.seen D
here_stores T c s D S = record { rows = S.rows; counters = refl; sound = S.sound; limits = S.limits }

-- 2, 3, 4 and whether it is ready, test by test.

module _ (seen : Counters) (op : Operation) (b₂ : Bool) (two : Says not_above op.act.id op.act.deps.at b₂) where
  above : (o : M.Operation) (y : Bool) → Means op o → b₂ ≡ y → not_above o ≡ y
  above o y e q = sym (two o (sym e.id) (sym e.deps)) ∙ q

  pub forestalls_two : b₂ ≡ true → JudgesCounters seen op (Err F.Counter)
  unfolding by_counters
  forestalls_two t D o s e = rw (above o true e t)

  module _ (n₂ : b₂ ≡ false) (b₃ : Bool) (three : (o : M.Operation) → o.id ≡ op.act.id → b₃ ≡ repeated seen.at o) where
    again : (D : Document) (o : M.Operation) (y : Bool) → seen.at ≡ D.seen → Means op o → b₃ ≡ y → repeated D.seen o ≡ y
    again D o y s e q = ap (λ s. repeated s o) (sym s) ∙ (sym (three o (sym e.id)) ∙ q)

    pub forestalls_three : b₃ ≡ true → JudgesCounters seen op (Err F.Repeat)
    unfolding by_counters
    forestalls_three t D o s e = rw (above o false e n₂, again D o true s e t)

    module _ (n₃ : b₃ ≡ false) (b₄ : Bool) (four' : Says (own_deps_behind seen.at) op.act.id op.act.deps.at b₄) where
      across : (D : Document) (o : M.Operation) (y : Bool) → seen.at ≡ D.seen → Means op o → b₄ ≡ y → own_deps_behind D.seen o ≡ y
      across D o y s e q = ap (λ s. own_deps_behind s o) (sym s) ∙ (sym (four' o (sym e.id) (sym e.deps)) ∙ q)

      pub forestalls_four : b₄ ≡ true → JudgesCounters seen op (Err F.OwnDeps)
      unfolding by_counters
      forestalls_four t D o s e = rw (above o false e n₂, again D o false s e n₃, across D o true s e t)

      module _ (n₄ : b₄ ≡ false) (b₅ : Bool) (five : b₅ ≡ ready seen.at op.act.id op.act.deps.at) where
        in_time : (D : Document) (o : M.Operation) (y : Bool) → seen.at ≡ D.seen → Means op o → b₅ ≡ y → ready_in D o ≡ y
        in_time D o y s e q = rw (← s, ← e.id, ← e.deps) (sym five ∙ q)

        pub forestalls_none : b₅ ≡ true → JudgesCounters seen op (Ok B.Ready)
        unfolding by_counters
        forestalls_none t D o s e =
            rw (above o false e n₂, again D o false s e n₃, across D o false s e n₄, in_time D o true s e t)

        pub forestalls_early : b₅ ≡ false → JudgesCounters seen op (Ok B.Early)
        unfolding by_counters
        forestalls_early t D o s e =
            rw (above o false e n₂, again D o false s e n₃, across D o false s e n₄, in_time D o false s e t)

-- The whole verdict.

-- an operation that is ready is no repeat
ready_new : (a b c d : Bool)
    → cond a (Err F.Counter) (cond b (Err F.Repeat) (cond c (Err F.OwnDeps) (cond d (Ok B.Ready) (Ok B.Early)))) ≡ Ok B.Ready → b ≡ false
ready_new true b c d e = absurd (false≢true (ap is_taken e))
ready_new false true c d e = absurd (false≢true (ap is_taken e))
ready_new false false c d e = refl

module _ (T : Tables) (c : Counts) (seen : Counters) (op : Operation) (a : Judgement) (K : JudgesCounters seen op a) where
  by : (D : Document) (o : M.Operation) → Stores T c seen.at D → Means op o → verdict_by a (ready_verdict o D) ≡ verdict o D
  unfolding verdict
  by D o S e = ap (λ z. verdict_by z (ready_verdict o D)) (K D o S.counters e)

  pub judges_early : a ≡ Ok B.Early → Judges T c seen op (Ok B.Early)
  judges_early t D o S e val = ap (λ z. verdict_by z (ready_verdict o D)) (sym t) ∙ by D o S e

  pub judges_refused : (r : Refusal) → a ≡ Err r → Judges T c seen op (Err r)
  judges_refused r t D o S e val = ap (λ z. verdict_by z (ready_verdict o D)) (sym t) ∙ by D o S e

  -- one that is ready
  pub judges_ready : (s : Position) (y : ReadyJudgement) (j : Judgement) → a ≡ Ok B.Ready → Tops T c op.way.keys s → JudgesReady T c s op y
      → j ≡ judgement_of y → Judges T c seen op j
  unfolding by_counters
  judges_ready s y j t P G q D o S e val =
      let S' = here_stores T c seen.at D S in
      let n = ready_new (not_above o) (repeated D.seen o) (own_deps_behind D.seen o) (ready_in D o)
      (sym (K D o S.counters e) ∙ t) in
      q ∙ (ap judgement_of (G D o S' e val (newer D o n) (P D o S' e.edit.keys val))
      ∙ (ap (λ z. verdict_by z (ready_verdict o D)) (sym t) ∙ by D o S e))
