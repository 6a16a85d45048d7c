-- `merge_run::receive_all` meets its contract. The invariant: the run so far, of which the next turn is a part. Assumes nothing.
use Rattle.merge_run.proofs.Running.{Going}
use Rattle.merge_run.proofs.receive_all.Given as goal

abbrev pub invariant-loop : goal.invariant-loop
invariant-loop l = Going l.fn.m l.fn.buf l.m l.buf l.cut l.counter
