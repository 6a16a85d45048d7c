-- `merge_run::receive_all` meets its contract: each turn is a part of the run. Assumes nothing.
use native.Mathlib.Omega.{arith}
use Rattle.merge_run.proofs.Running.{going_none, going_on, takes_all, worn_out_lem}
use Rattle.merge_run.proofs.receive_all.Goals as goal

pub loop-init : goal.loop-init
loop-init c = going_none _ _

pub read_on-end-requires-clause-cut_inside : goal.read_on-end-requires-clause-cut_inside
read_on-end-requires-clause-cut_inside c = c.loop.invariant.holds

pub read_on-end-requires-clause-from_in_bounds : goal.read_on-end-requires-clause-from_in_bounds
read_on-end-requires-clause-from_in_bounds c = omega (arith, c.loop.auto.buf, c.loop.invariant.short, c.requires.in_bounds)

pub returns-in-Some : goal.returns-in-Some
returns-in-Some c =
    takes_all c.loop.invariant c.read_on-end.ensures c.is_some.ensures c.take_in-cut.ensures _ c.in-Some.is c.requires.keeps

pub loop-preserved : goal.loop-preserved
loop-preserved c = going_on c.loop.invariant c.read_on-end.ensures c.is_some.ensures c.take_in-cut.ensures c.in_default.is

pub returns : goal.returns
returns c = worn_out_lem _ c.loop.invariant (omega (arith, c.loop-test.false, c.loop.auto.counter-end))
