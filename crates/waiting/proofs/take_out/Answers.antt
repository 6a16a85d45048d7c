-- `waiting::take_out` meets its contract: a row is closed up. Assumes nothing.
use mathlib.Core.Logic.{inl, inr}
use Rattle.waiting.proofs.Told.{takes_out, takes_none}
use Rattle.waiting.proofs.take_out.Goals as goal
use Rattle.waiting.proofs.take_out.Goals.{then-t-lt-WAITING-via-then-t-lt-WAITING, then-t-lt-WAITING-via-else-t-lt-WAITING+then-n-gt-MOST}
use Rattle.waiting.proofs.take_out.Goals.{then-t-lt-WAITING-via-else-t-lt-WAITING+else-n-gt-MOST+then-i-n}

pub returns-then-t-lt-WAITING : goal.returns-then-t-lt-WAITING
returns-then-t-lt-WAITING c =
    takes_none _ _ _ (elim c.then-t-lt-WAITING.branch [
      | then-t-lt-WAITING-via-then-t-lt-WAITING w ↦ inl w.if-t-lt-WAITING.true
      | then-t-lt-WAITING-via-else-t-lt-WAITING+then-n-gt-MOST w ↦ inr (inl w.if-n-gt-MOST.true)
      | then-t-lt-WAITING-via-else-t-lt-WAITING+else-n-gt-MOST+then-i-n w ↦ inr (inr w.if-i-n.true)
    ])

pub returns : goal.returns
returns c = takes_out _ _ _ c.if-i-n.false _ c.close.ensures
