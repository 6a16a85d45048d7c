-- `forecast::loss::gone` meets its contract: the row, and what hangs under it. Assumes nothing.
use Rattle.forecast.proofs.Blocks.{block_gone}
use Rattle.forecast.proofs.loss.gone.Goals as goal

pub returns : goal.returns
returns c =
    rw c.plus.ensures
    (block_gone _ _ _ _ _ _ _ _ _ _ c.gone_row-own.ensures c.next_row-next.ensures c.depth_at-n.ensures c.gone_under-under.ensures)
