-- `forecast::loss::depth_at` meets its contract. Assumes nothing.
use Rattle.tables.specs.Heads.{depth_said}
use Rattle.forecast.proofs.Blocks.{deep_is}
use Rattle.forecast.proofs.loss.depth_at.Goals as goal

pub returns : goal.returns
returns c = rw (depth_said c.head_at.ensures) (deep_is _ _)
