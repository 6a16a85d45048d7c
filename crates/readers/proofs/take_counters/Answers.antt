use Prim.Native.Nat.{ℕ}
use native.Mathlib.Omega.{arith}
use mathlib.Core.Path.{refl, subst}
use mathlib.Core.List.{◌∷◌, append-nil}
use lib.ListN.{replicate, set}
use Rattle.readers.proofs.Commas.{State, start, step, refuse, done, counters_refused}
use Rattle.readers.proofs.take_counters.Goals as goal

pub loop-counter-init : goal.loop-counter-init
loop-counter-init c = start _ _ _ _ (replicate 8 0) refl c.in_ok-first.ensures

pub returns-in_err-x : goal.returns-in_err-x
returns-in_err-x c =
    counters_refused _ c.from_residual-in_err-x.ensures
    (refuse _ _ _ _ _ c.loop-counter.invariant (omega (arith, c.loop-counter.invariant.long)) c.in_err-x.ensures)

pub loop-counter-preserved : goal.loop-counter-preserved
loop-counter-preserved c =
    subst
    (λ (i : ℕ). State c.args.s.now c.args.a i c.in_ok-x.next (c.in_ok-first.first ∷ set c.loop-counter.counter-items c.loop-counter.counter-index c.in_ok-x.x))
    (omega arith)
    (step _ _ _ _ _ c.loop-counter.invariant (omega (arith, c.loop-counter.invariant.long)) _ _ c.in_ok-x.ensures)

pub returns : goal.returns
returns c = simp append-nil (done _ _ _ _ _ c.loop-counter.invariant (omega (arith, c.loop-counter.invariant.long)))
