use Rattle.writers.proofs.Over.{wrote_more}
use Rattle.writers.proofs.Tuple2Text.put.Goals as goal

pub returns : goal.returns
returns g c = wrote_more c.put-at.ensures c.then.ensures
