-- 2, 3, 4 and whether it is ready.
use Rattle.judging.proofs.Judged.{forestalls_two, forestalls_three, forestalls_four, forestalls_none, forestalls_early}
use Rattle.judging.proofs.judge_counters.Goals as goal

pub returns-then-not_above : goal.returns-then-not_above
returns-then-not_above c =
    forestalls_two _ c.args.op _ c.not_above.ensures c.if-not_above.true

pub returns-then-repeated : goal.returns-then-repeated
returns-then-repeated c =
    forestalls_three _ c.args.op _ c.not_above.ensures c.if-not_above.false _
    c.repeated.ensures c.if-repeated.true

pub returns-then-own_deps_behind : goal.returns-then-own_deps_behind
returns-then-own_deps_behind c =
    forestalls_four _ c.args.op _ c.not_above.ensures c.if-not_above.false _
    c.repeated.ensures c.if-repeated.false _ c.own_deps_behind.ensures c.if-own_deps_behind.true

pub returns-then-ready : goal.returns-then-ready
returns-then-ready c =
    forestalls_none _ c.args.op _ c.not_above.ensures c.if-not_above.false _
    c.repeated.ensures c.if-repeated.false _ c.own_deps_behind.ensures c.if-own_deps_behind.false _
    c.ready.ensures c.if-ready.true

pub returns : goal.returns
returns c =
    forestalls_early _ c.args.op _ c.not_above.ensures c.if-not_above.false _
    c.repeated.ensures c.if-repeated.false _ c.own_deps_behind.ensures c.if-own_deps_behind.false _
    c.ready.ensures c.if-ready.false
