-- The loop's invariant, `Putting`: the first i texts are written.
-- Assumes nothing.
use Rattle.writers.proofs.Runs.{Putting}
use Rattle.writers.proofs.many.ManyText.put.Given as goal

abbrev pub invariant-loop : goal.invariant-loop
invariant-loop g l =
    let p = g.P.Pieces in Putting p.text p.next p.Has l.self.first l.self.count l.initial.buf l.from l.counter l.buf l.at
