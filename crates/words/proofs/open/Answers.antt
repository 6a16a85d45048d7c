-- `words::open` meets its contract. Assumes nothing.
use Prim.Native.Nat.{◌+◌, ◌-◌}
use mathlib.Core.Path.{◌∙◌}
use native.Mathlib.Omega.{arith}
use Rattle.words.specs.Words.{opened}
use Rattle.words.proofs.Moves.{within_over}
use Rattle.words.proofs.open.Goals as goal

pub returns : goal.returns
unfolding opened
returns c =
    let a = c.args in
    c.copy_within.ensures.after ∙ within_over a.at (a.live - a.at) a.live (a.at + a.n) a.t.now (omega arith) (omega arith)
