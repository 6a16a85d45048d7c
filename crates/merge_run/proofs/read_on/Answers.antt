-- `merge_run::read_on` meets its contract: the bytes that come stand behind those that are held. The answer that the run names is that of
-- the read. Assumes nothing.
use Rattle.std.proofs.Common.{rules}
use Rattle.merge_run.proofs.Reading.{reads_chunk}
use Rattle.merge_run.proofs.read_on.Goals as goal

pub returns : goal.returns
returns c =
    reads_chunk c.make_room-held.ensures c.read-got.new.buf c.read-got.auto.buf c.read-got.result _ c.read-got.ensures.bound c.came.ensures
    (search rules)
