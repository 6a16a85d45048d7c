use Rattle.writers.proofs.Runs.{sum_more, summed, onward_at}
use Rattle.writers.proofs.many.ManyText.size.Goals as goal

pub piece-requires : goal.piece-requires
piece-requires g c =
    let p = g.P.Pieces in
    (onward_at p.text p.next p.Has p.Here g.met.P.Pieces.onward c.loop-test.true c.loop.invariant.has).0

pub next-from-requires : goal.next-from-requires
next-from-requires g c =
    let p = g.P.Pieces in
    (onward_at p.text p.next p.Has p.Here g.met.P.Pieces.onward c.loop-test.true c.loop.invariant.has).0

pub loop-preserved : goal.loop-preserved
loop-preserved g c =
    let p = g.P.Pieces in
    rw c.next-from.ensures
    (sum_more p.text p.next p.Has c.loop.invariant c.loop-test.true
    (onward_at p.text p.next p.Has p.Here g.met.P.Pieces.onward c.loop-test.true c.loop.invariant.has).1
    c.piece.ensures.2 (rw c.piece.ensures.1 at c.size-sum.ensures))

pub returns : goal.returns
returns g c = let p = g.P.Pieces in summed p.text p.next p.Has c.loop.invariant c.loop-test.false
