-- `waiting::waits` meets its contract: the operation at the rank of the id. Assumes nothing.
use native.Mathlib.Omega.{arith}
use borrow.Author.Tests.{le-ltb}
use Rattle.waiting.specs.Waits.{TellsWaits}
use Rattle.waiting.proofs.Holds.{table_long}
use Rattle.waiting.proofs.Told.{waits_none, waits_one}
use Rattle.waiting.proofs.waits.Goals as goal

pub returns-then-t-lt-WAITING : goal.returns-then-t-lt-WAITING
unfolding TellsWaits
returns-then-t-lt-WAITING c = λ os W. absurd (omega (arith, table_long _ _ _ W, W.fit))

pub returns-else-k-n : goal.returns-else-k-n
returns-else-k-n c =
    rw (le-ltb c.rank_rows-k.result c.args.n c.if-k-n.false) (waits_none _ _ _ _ c.rank_rows-k.ensures c.if-k-n.false)

pub returns-then-k-n : goal.returns-then-k-n
returns-then-k-n c = waits_one _ _ _ _ c.rank_rows-k.ensures c.if-k-n.true
