-- The verdict on a waiting operation, from its id and deps, or from all of it.
-- Assumes nothing.
use Prim.Native.Nat.{ℕ}
use mathlib.Core.Path.{◌≡◌, sym, ap, ◌∙◌, subst}
use mathlib.Core.Bool.{Bool, true, not, ◌&&◌}
use native.Mathlib.Omega.{arith}
use borrow.Author.Tests.{not-true, not-false, ltb-false, lt-leb}
use Rattle.std.specs.Prelude.{Some, None, Ok}
use Rattle.meaning.specs.Ids.{counter_of, entry_of, entry, all_below, ready}
use Rattle.meaning.specs.Judge.{not_above, repeated, own_deps_behind}
use Rattle.theorems.specs.Counters.{all_below_each}
use Rattle.theorems.specs.Decide.{and_left, and_right}
use Rattle.theorems.specs.Invariant.{Sent}
use Rattle.message.specs.declared.Operation as Held
use Rattle.judging.specs.Judging.{Judgement, Judges}
use Rattle.judging.specs.declared.Readiness.TheVariants as B
use Rattle.waiting.specs.Waits.{TellsEarly, Tells}
use Rattle.waiting.proofs.Holds.{all-at}
use Rattle.keeping.specs.declared.Memory.{Memory}
use Rattle.settling.specs.Settling.{Looks}
use Rattle.settling.proofs.Verdicts.{early-verdict}

module _ (M : Memory) (i : ℕ) where
  -- one that comes too early: its counter is above its own terminal's entry of deps, which isn't below that of seen
  pub looks_early : (r : Bool) → TellsEarly M.waiting M.count i M.document.seen.at r → r ≡ true
      → Looks M i (Some (Ok B.Early))
  unfolding TellsEarly own_deps_behind repeated not_above
  looks_early r E y X A R o k w e =
      let sent = all-at Sent A R o (rw w at k.sent) in
      let b = subst (λ s. r ≡ (not (own_deps_behind s o) && not (ready s o.id o.deps))) k.document.counters
      (E A R o (rw w at k.waiting) e) in
      let x = not-true (own_deps_behind X.document.seen o) (and_left (not (own_deps_behind X.document.seen o)) _ (sym b ∙ y)) in
      let n = not-true (ready X.document.seen o.id o.deps) (and_right (not (own_deps_behind X.document.seen o)) _ (sym b ∙ y)) in
      let below = all_below_each (counter_of o.id) o.deps sent.valid.id.low
      (not-false (all_below (counter_of o.id) o.deps) sent.above) (entry_of o.id) in
      let past = ltb-false (entry o.deps (entry_of o.id)) (entry X.document.seen (entry_of o.id)) x in
      ap Some (sym (early-verdict X.document o sent.above
      (lt-leb (counter_of o.id) (entry X.document.seen (entry_of o.id)) (omega (arith, below, past))) x n))

  pub looks_whole : (op : Held.Operation) (r : Judgement) → Tells M.waiting M.count i (Some op)
      → Judges M.document.tables M.document.counts M.document.seen op r → Looks M i (Some r)
  unfolding Tells
  looks_whole op r T J X A R o k w e =
      ap Some (J X.document o k.document (T A R o (rw w at k.waiting) e) (all-at Sent A R o (rw w at k.sent)).valid)

  -- where none is, memory that keeps a terminal has none
  pub looks_none : Tells M.waiting M.count i None → Looks M i None
  unfolding Tells
  looks_none T X A R o k w e = absurd (T A R o (rw w at k.waiting) e)
