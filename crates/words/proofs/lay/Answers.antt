-- `words::lay` meets its contract. Assumes nothing.
use mathlib.Core.Path.{refl}
use Prim.Native.Nat.{◌+◌}
use lib.ListN.{length}
use Rattle.words.proofs.Moves.{part_over}
use Rattle.words.proofs.lay.Goals as goal

pub returns : goal.returns
returns c =
    let a = c.args in
    part_over a.at (a.at + length a.w.now) a.t.now a.w.now c.copy_from_slice.new.self c.copy_from_slice.ensures.after refl
