-- The loop's invariant, `Summing`: the sizes of the first i texts are summed.
-- Assumes nothing.
use Rattle.writers.proofs.Runs.{Summing}
use Rattle.writers.proofs.many.ManyText.size.Given as goal

abbrev pub invariant-loop : goal.invariant-loop
invariant-loop g l =
    let p = g.P.Pieces in Summing p.text p.next p.Has l.self.first l.self.count p.each l.from l.counter l.sum
