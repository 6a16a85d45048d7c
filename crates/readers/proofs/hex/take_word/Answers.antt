use Rattle.readers.proofs.Hexes.{odd}
use Rattle.readers.proofs.Taking.{part_start, room, part_more}
use Rattle.readers.proofs.hex.take_word.Goals as goal

pub loop-len-init : goal.loop-len-init
loop-len-init c = part_start _ _

pub returns-in_err-low : goal.returns-in_err-low
returns-in_err-low c =
    rw c.from_residual.ensures (odd _ _ _ c.in-Some.ensures _ _ c.loop-len.invariant.hexed c.in_err-low.ensures)

pub overflow_add-word-in-loop-len : goal.overflow_add-word-in-loop-len
overflow_add-word-in-loop-len c =
    room _ _ _ _ _ c.loop-len.invariant c.loop-len-test.true _ _ c.in-Some.ensures c.in_ok-low.ensures

pub loop-len-preserved : goal.loop-len-preserved
loop-len-preserved c =
    part_more _ _ _ _ _ c.loop-len.invariant c.loop-len-test.true _ _ c.in-Some.ensures c.in_ok-low.ensures
