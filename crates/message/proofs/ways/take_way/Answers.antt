-- `message::ways::take_way` meets its contract.
-- Assumes nothing.
use mathlib.Core.Path.{refl}
use mathlib.Core.Bool.{false≢true}
use Rattle.message.specs.Means.{pad}
use Rattle.message.proofs.Trails.{no_top, start, end, bad, closed, ninth, more}
use Rattle.message.proofs.ways.take_way.Goals as goal
use Rattle.message.proofs.ways.take_way.Goals.{then-last-eq-CARET-via-then-last-eq-CARET, then-last-eq-CARET-via-else-last-eq-CARET+then-way-eq8}

pub returns-in_err-first : goal.returns-in_err-first
returns-in_err-first c = rw c.from_residual.ensures (no_top _ _ c.in_err-first.ensures)

pub loop-way-init : goal.loop-way-init
unfolding pad
loop-way-init c = rw c.put_key.ensures (start _ _ _ _ c.in_ok-first.ensures)

pub returns-in_err-key : goal.returns-in_err-key
returns-in_err-key c =
    rw c.from_residual-in_err-key.ensures (bad _ _ _ _ _ c.loop-way.invariant c.in_err-key.ensures (λ f. false≢true (c.loop-way-test.ensures.1 f)))

pub returns-then-last-eq-CARET : goal.returns-then-last-eq-CARET
returns-then-last-eq-CARET c =
    elim c.then-last-eq-CARET.branch [
      | then-last-eq-CARET-via-then-last-eq-CARET w ↦ closed _ _ _ _ _ c.loop-way.invariant _ _ c.in_ok-key.ensures w.if-last-eq-CARET.true
      | then-last-eq-CARET-via-else-last-eq-CARET+then-way-eq8 w ↦
          ninth _ _ _ _ _ c.loop-way.invariant _ _ c.in_ok-key.ensures w.if-way-eq8.true
    ]

pub loop-way-preserved : goal.loop-way-preserved
loop-way-preserved c =
    rw c.put_key-in-loop-way.ensures
    (more _ _ _ _ _ c.loop-way.invariant _ _ c.in_ok-key.ensures c.if-last-eq-CARET.false c.if-way-eq8.false)

pub returns : goal.returns
returns c = end _ _ _ _ _ c.loop-way.invariant (c.loop-way-test.ensures.0 refl)
