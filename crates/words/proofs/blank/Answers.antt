-- `words::blank` meets its contract. Assumes nothing.
use native.Mathlib.Omega.{arith}
use Prim.Native.Nat.{ℕ, ◌+◌}
use mathlib.Core.Path.{◌≡◌}
use Rattle.std.proofs.Common.{rules}
use lib.ListN.{replicate, length-replicate}
use Rattle.words.proofs.Moves.{part_over}
use Rattle.words.proofs.blank.Goals as goal

pub returns : goal.returns
returns c =
    let a = c.args in
    let e : c.fill.new.self ≡ replicate a.n 0 = search rules in
    part_over a.from (a.from + a.n) a.t.now (replicate a.n 0) c.fill.new.self e (omega (arith, length-replicate {A = ℕ} a.n 0))
