use native.Mathlib.Omega.{arith}
use Rattle.decimal.proofs.Runs.{unwritten, one_more, written}
use Rattle.decimal.proofs.put_decimal.Goals as goal

pub loop-i-init : goal.loop-i-init
loop-i-init c = unwritten _ _ _ c.decimal_size-n.ensures.0

pub loop-i-preserved : goal.loop-i-preserved
loop-i-preserved c = one_more _ _ _ _ _ _ c.loop-i.invariant c.loop-i-test.true (omega arith)

pub returns : goal.returns
returns c = written _ _ _ _ _ _ c.loop-i.invariant c.decimal_size-n.ensures.0 (omega arith)
