-- `clear::clear_place` and `clear::clear_branch`, which call each other, meet their contracts. The measure is twice the levels that are
-- left,
-- and one more for a place. The loop's invariant: the rows gone over are cleared (proofs/Branch). Assumes nothing.
use mathlib.Core.Path.{refl, ◌∙◌}
use native.Mathlib.Omega.{arith}
use Rattle.tables.specs.Heads.{depth_said}
use Rattle.clear.specs.Clear.{passing}
use Rattle.clear.proofs.Branch.{walks_start, walks_end, walks_stop, walks_on, branch_none, row_starts, place_done}
use Rattle.clear.proofs.+clear_branch_clear_place.Goals as goal

pub clear_branch-returns-then-left-eq0 : goal.clear_branch-returns-then-left-eq0
clear_branch-returns-then-left-eq0 t c =
    let d = c.args.d.at in
    let x = passing c.args.heads.now c.args.marks.now c.args.values.now c.args.p in
    branch_none d c.args.rows c.args.n c.args.left x c.requires c.if-left-eq0.true

pub clear_branch-loop-q-init : goal.clear_branch-loop-q-init
clear_branch-loop-q-init t c =
    let d = c.args.d.at in
    let x = passing c.args.heads.now c.args.marks.now c.args.values.now c.args.p in
    (refl, refl, refl, walks_start d c.args.rows c.args.n c.args.left x c.requires)

pub clear_branch-shape_of-heads-then-head_in-n : goal.clear_branch-shape_of-heads-then-head_in-n
clear_branch-shape_of-heads-then-head_in-n t c =
    c.loop-q.invariant.0

pub clear_branch-shape_of-marks-then-head_in-n : goal.clear_branch-shape_of-marks-then-head_in-n
clear_branch-shape_of-marks-then-head_in-n t c =
    c.loop-q.invariant.1

pub clear_branch-shape_of-values-then-head_in-n : goal.clear_branch-shape_of-values-then-head_in-n
clear_branch-shape_of-values-then-head_in-n t c =
    c.loop-q.invariant.2

pub clear_branch-returns-then-head_in-n : goal.clear_branch-returns-then-head_in-n
clear_branch-returns-then-head_in-n t c =
    let d = c.args.d.at in
    let x = passing c.args.heads.now c.args.marks.now c.args.values.now c.args.p in
    let l = c.loop-q in
    let y = passing l.heads l.marks l.values l.q in
    walks_stop d c.args.rows c.args.n c.args.left x y l.invariant.3 c.loop-q-test.true
    (omega (arith, depth_said c.head_in.ensures, c.if-head_in-n.true))

pub clear_branch-clear_place-q-requires : goal.clear_branch-clear_place-q-requires
clear_branch-clear_place-q-requires t c =
    let l = c.loop-q in
    let z = c.if-left-eq0.false in
    (omega arith, (l.invariant.3.starts, c.loop-q-test.true))

pub clear_branch-loop-q-smaller : goal.clear_branch-loop-q-smaller
clear_branch-loop-q-smaller t c =
    let l = c.loop-q in
    let g = c.clear_place-q.ensures.low in
    let h = c.clear_place-q.ensures.high in
    omega arith

pub clear_branch-loop-q-preserved : goal.clear_branch-loop-q-preserved
clear_branch-loop-q-preserved t c =
    let d = c.args.d.at in
    let x = passing c.args.heads.now c.args.marks.now c.args.values.now c.args.p in
    let l = c.loop-q in
    let y = passing l.heads l.marks l.values l.q in
    let g = c.clear_place-q in
    let z = passing g.new.heads g.new.marks g.new.values g.result in
    let r = l.invariant.3.starts.rows_in in
    let k = g.auto.heads in (
      g.auto.heads ∙ l.invariant.0,
      g.auto.marks ∙ l.invariant.1,
      g.auto.values ∙ l.invariant.2,
      walks_on d c.args.rows c.args.n c.args.left x y z l.invariant.3 c.loop-q-test.true
          (omega (arith, depth_said c.head_in.ensures, c.if-head_in-n.false)) g.ensures (omega arith),
    )

pub clear_branch-returns : goal.clear_branch-returns
clear_branch-returns t c =
    let d = c.args.d.at in
    let x = passing c.args.heads.now c.args.marks.now c.args.values.now c.args.p in
    let l = c.loop-q in
    let y = passing l.heads l.marks l.values l.q in
    walks_end d c.args.rows c.args.n c.args.left x y l.invariant.3 c.loop-q-test.false

pub clear_place-clear_row-q-requires : goal.clear_place-clear_row-q-requires
clear_place-clear_row-q-requires t c =
    let b = c.requires.0.rows_in in
    (c.requires.0.within, omega (arith, c.requires.1))

pub clear_place-clear_branch-requires : goal.clear_place-clear_branch-requires
clear_place-clear_branch-requires t c =
    let r = c.clear_row-q in
    let x = passing c.args.heads.now c.args.marks.now c.args.values.now c.args.p in
    let y = passing r.new.heads r.new.marks r.new.values r.result in
    let k = r.auto.heads in
    let b = c.requires.0.rows_in in (
      omega arith,
      row_starts c.args.d.at c.args.rows _ c.args.left x y y (depth_said c.head_in-n.ensures) c.requires.1 r.ensures
          (omega arith),
    )

pub clear_place-shape_of-heads : goal.clear_place-shape_of-heads
clear_place-shape_of-heads t c =
    c.clear_branch.auto.heads ∙ c.clear_row-q.auto.heads

pub clear_place-shape_of-marks : goal.clear_place-shape_of-marks
clear_place-shape_of-marks t c =
    c.clear_branch.auto.marks ∙ c.clear_row-q.auto.marks

pub clear_place-shape_of-values : goal.clear_place-shape_of-values
clear_place-shape_of-values t c =
    c.clear_branch.auto.values ∙ c.clear_row-q.auto.values

pub clear_place-returns : goal.clear_place-returns
clear_place-returns t c =
    let r = c.clear_row-q in
    let b = c.clear_branch in
    let x = passing c.args.heads.now c.args.marks.now c.args.values.now c.args.p in
    let y = passing r.new.heads r.new.marks r.new.values r.result in
    let z = passing b.new.heads b.new.marks b.new.values b.result in
    place_done c.args.d.at c.args.rows _ c.args.left x y z (depth_said c.head_in-n.ensures) c.requires.1 r.ensures b.ensures
