-- `waiting::put` meets its contract: a row is opened at the rank of its id, and written. Assumes nothing.
use Rattle.waiting.proofs.Told.{puts, full, short}
use Rattle.waiting.proofs.put.Goals as goal
use Rattle.waiting.proofs.put.Goals.{then-t-lt-WAITING-via-then-t-lt-WAITING, then-t-lt-WAITING-via-else-t-lt-WAITING+then-n-ge-MOST}

pub returns : goal.returns
returns c =
    puts _ _ _ _ _ _ c.if-t-lt-WAITING.false c.if-n-ge-MOST.false c.rank_rows-at.ensures c.«open».ensures c.write_row.ensures

pub returns-then-t-lt-WAITING : goal.returns-then-t-lt-WAITING
returns-then-t-lt-WAITING c =
    elim c.then-t-lt-WAITING.branch [
      | then-t-lt-WAITING-via-then-t-lt-WAITING w ↦ short _ _ _ w.if-t-lt-WAITING.true
      | then-t-lt-WAITING-via-else-t-lt-WAITING+then-n-ge-MOST w ↦ full _ _ _ w.if-n-ge-MOST.true
    ]
