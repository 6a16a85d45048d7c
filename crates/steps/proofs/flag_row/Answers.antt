-- `steps::flag_row` meets its contract: the row's head is written anew. Assumes nothing.
use native.Mathlib.Omega.{arith}
use Rattle.steps.specs.Steps.{Flags}
use Rattle.tables.specs.Changed.{row_in}
use Rattle.steps.proofs.Flags.{flags}
use Rattle.steps.proofs.flag_row.Goals as goal

pub returns-then-row-heads : goal.returns-then-row-heads
returns-then-row-heads c = flags _ _ _ _ c.with_flag.ensures

pub returns-else-row-heads : goal.returns-else-row-heads
unfolding Flags
returns-else-row-heads c = λ k m v n A R r H e. absurd (omega (arith, row_in A r R _ n H, c.if-row-heads.false, e))
