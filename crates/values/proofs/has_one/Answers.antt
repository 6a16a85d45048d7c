-- `values::has_one` meets its contract. Assumes nothing.
use mathlib.Core.Path.{sym, ◌∙◌}
use mathlib.Core.Bool.{false≢true}
use native.Mathlib.Omega.{arith}
use Rattle.tables.specs.Heads.{values-said}
use Rattle.values.proofs.Set.{has_one}
use Rattle.values.proofs.has_one.Goals as goal

pub returns : goal.returns
returns c = λ e.
    has_one _ _ _ _ (omega (arith, c.if-head_at-ne1.false, values-said c.head_at.ensures)) (omega (arith, c.if-first-ge-VALUES_ROOM.false))
    (omega (arith, c.if-values-first.false)) (sym c.covered.ensures ∙ e)

pub returns-then-head_at-ne1 : goal.returns-then-head_at-ne1
returns-then-head_at-ne1 c = λ e. absurd (false≢true e)
