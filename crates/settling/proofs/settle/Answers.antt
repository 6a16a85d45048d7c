-- Each round that applies one leaves fewer.
use native.Mathlib.Omega.{arith}
use mathlib.Core.Path.{refl}
use borrow.Author.Tests.{not-true, not-false}
use Rattle.settling.proofs.Rounds.{underway, goes_on, comes_to_rest}
use Rattle.settling.proofs.settle.Goals as goal

pub returns-then-count-gt-MOST : goal.returns-then-count-gt-MOST
returns-then-count-gt-MOST c = record {
  few = omega arith;
  beyond = λ _. (refl, refl);
  settles = λ X K. absurd (omega (arith, K.waiting.fit, c.if-count-gt-MOST.true));
}

pub returns-then-not-r : goal.returns-then-not-r
returns-then-not-r c =
    record {
      few = omega (arith, c.loop-settled.invariant.0, c.loop-settled.invariant.1);
      beyond = λ h. absurd (omega (arith, h, c.loop-settled.invariant.1));
      settles = λ X K. comes_to_rest X _ _ _ _ _ c.round-r.ensures (c.loop-settled.invariant.2 X K) (not-true _ c.if-not-r.true);
    }

pub loop-settled-preserved : goal.loop-settled-preserved
loop-settled-preserved c = (
  omega (arith, c.loop-settled.invariant.0, c.round-r.ensures.less (not-false _ c.if-not-r.false)),
  c.loop-settled.invariant.1,
  λ X K. goes_on X _ _ _ _ _ c.round-r.ensures (c.loop-settled.invariant.2 X K) (not-false _ c.if-not-r.false),
)

pub loop-settled-init : goal.loop-settled-init
loop-settled-init c = (omega arith, c.if-count-gt-MOST.false, λ X K. underway X _ K)
