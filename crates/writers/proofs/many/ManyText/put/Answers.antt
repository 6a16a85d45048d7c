use Rattle.writers.proofs.Runs.{put_begun, put_room, put_more, put_all, onward_at}
use Rattle.writers.proofs.many.ManyText.put.Goals as goal

pub loop-init : goal.loop-init
loop-init g c = let p = g.P.Pieces in put_begun p.text p.next p.Has _ _ _ c.requires.0 c.requires.1

pub piece-requires : goal.piece-requires
piece-requires g c =
    let p = g.P.Pieces in
    (onward_at p.text p.next p.Has p.Here g.met.P.Pieces.onward c.loop-test.true c.loop.invariant.has).0

pub then-at-requires : goal.then-at-requires
then-at-requires g c =
    let p = g.P.Pieces in
    (c.piece.ensures.0, rw c.piece.ensures.1 (put_room p.text p.next p.Has c.loop.invariant c.loop-test.true))

pub next-from-requires : goal.next-from-requires
next-from-requires g c =
    let p = g.P.Pieces in
    (onward_at p.text p.next p.Has p.Here g.met.P.Pieces.onward c.loop-test.true c.loop.invariant.has).0

pub loop-preserved : goal.loop-preserved
loop-preserved g c =
    let p = g.P.Pieces in
    rw c.next-from.ensures
    (put_more p.text p.next p.Has c.loop.invariant c.loop-test.true
    (onward_at p.text p.next p.Has p.Here g.met.P.Pieces.onward c.loop-test.true c.loop.invariant.has).1
    (rw c.piece.ensures.1 at c.then-at.ensures))

pub returns : goal.returns
returns g c = let p = g.P.Pieces in put_all p.text p.next p.Has c.loop.invariant c.loop-test.false
