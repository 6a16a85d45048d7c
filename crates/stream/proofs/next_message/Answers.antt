use Prim.Native.Nat.{◌+◌}
use mathlib.Core.Path.{sym, ◌∙◌}
use Rattle.stream.proofs.Compare.{opens_there}
use Rattle.stream.proofs.Ending.{found, other_byte, other_line, at_end}
use Rattle.stream.proofs.next_message.Goals as goal
use Rattle.stream.proofs.next_message.Goals.{else-s-e-eq10-via-then-s-e-eq10+else-starts_with, else-s-e-eq10-via-else-s-e-eq10}

pub returns-then-starts_with : goal.returns-then-starts_with
returns-then-starts_with c =
    found c.loop-e.invariant c.loop-e-test.true c.if-s-e-eq10.true
    (sym c.if-starts_with.true ∙ (c.starts_with.ensures.value ∙ opens_there c.args.s.now (c.loop-e.e + 1)))

pub loop-e-preserved : goal.loop-e-preserved
loop-e-preserved c =
    let l = c.loop-e in
    elim c.else-s-e-eq10.branch [
      | else-s-e-eq10-via-then-s-e-eq10+else-starts_with w ↦
          other_line l.invariant c.loop-e-test.true w.if-s-e-eq10.true (sym w.if-starts_with.false ∙ (w.starts_with.ensures.value ∙ opens_there c.args.s.now (l.e + 1)))
      | else-s-e-eq10-via-else-s-e-eq10 w ↦ other_byte l.invariant c.loop-e-test.true w.if-s-e-eq10.false
    ]

pub returns : goal.returns
returns c = at_end c.loop-e.invariant c.loop-e-test.false c.loop-e.auto.e-end c.max.result c.max.ensures
