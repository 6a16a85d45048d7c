-- What has been fed so far. Each piece ends behind the one before it.
use Prim.Native.Nat.{◌-◌}
use Rattle.feed.proofs.Feeding.{Going}
use Rattle.feed.proofs.take_in.Given as goal

abbrev pub invariant-loop-next : goal.invariant-loop-next
invariant-loop-next l = Going l.initial.m l.buf l.initial.cut l.last l.m l.cut

abbrev pub decreases-loop-next : goal.decreases-loop-next
decreases-loop-next l = l.cut.to - l.cut.from
