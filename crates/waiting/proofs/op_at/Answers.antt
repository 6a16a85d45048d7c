-- `waiting::op_at` meets its contract. Assumes nothing.
use native.Mathlib.Omega.{arith}
use Rattle.waiting.specs.Waits.{Tells}
use Rattle.waiting.proofs.Holds.{table_long, among}
use Rattle.waiting.proofs.Told.{tells}
use Rattle.waiting.proofs.op_at.Goals as goal

pub returns-then-t-lt-WAITING : goal.returns-then-t-lt-WAITING
unfolding Tells
returns-then-t-lt-WAITING c =
    λ A R o W e. absurd (omega (arith, table_long _ _ _ W, W.fit, among _ _ _ A R o W e))

pub returns : goal.returns
returns c = tells _ _ _ _ c.read_row.ensures
