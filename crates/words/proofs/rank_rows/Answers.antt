use Prim.Native.Nat.{◌+◌, ◌*◌}
use mathlib.Core.Path.{refl}
use native.Mathlib.Omega.{arith}
use Rattle.words.proofs.Rows.{ranking_stops, ranking_goes, ranking_ends}
use Rattle.words.proofs.rank_rows.Goals as goal

pub returns-then-t-from : goal.returns-then-t-from
returns-then-t-from c =
    let a = c.args in
    let l = c.loop-i in
    ranking_stops a.w a.id a.from a.n l.i (a.from + l.i * a.w) a.t.now refl c.loop-i-test.true l.invariant (omega arith)

pub loop-i-preserved : goal.loop-i-preserved
loop-i-preserved c =
    let a = c.args in
    let l = c.loop-i in
    ranking_goes a.w a.id a.from a.n l.i (a.from + l.i * a.w) a.t.now refl c.loop-i-test.true l.invariant (omega arith)

pub returns : goal.returns
returns c =
    let a = c.args in
    let l = c.loop-i in
    ranking_ends a.w a.id a.from a.n l.i a.t.now c.loop-i-test.false l.invariant
