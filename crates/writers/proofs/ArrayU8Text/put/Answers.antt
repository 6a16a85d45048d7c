use native.Mathlib.Omega.{arith}
use mathlib.Core.Path.{◌≡◌}
use Rattle.writers.proofs.Over.{copy_none, copy_more, copy_all}
use Rattle.writers.proofs.ArrayU8Text.put.Goals as goal

pub loop-i-init : goal.loop-i-init
loop-i-init g c = copy_none _ _

pub loop-i-preserved : goal.loop-i-preserved
loop-i-preserved g c = copy_more c.loop-i.invariant c.requires.1 (omega (arith, c.told-self, c.loop-i-test.true))

pub returns : goal.returns
returns g c =
    let e : c.loop-i.i ≡ g.row.N = omega (arith, c.loop-i.auto.i-end, c.loop-i-test.false) in
    rw e at (copy_all c.loop-i.invariant (omega (arith, c.told-self, c.loop-i-test.false)))
