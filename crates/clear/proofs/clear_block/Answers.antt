-- `clear::clear_block` meets its contract: no tables that hold rows fail its tests, and what it leaves is said by proofs/Block.
-- Assumes nothing.
use native.Mathlib.Omega.{arith}
use Rattle.clear.specs.Clear.{passing}
use Rattle.clear.proofs.Block.{not_sitting, far_marks, far_values, block_done}
use Rattle.clear.proofs.clear_block.Goals as goal

pub returns-then-rows-heads : goal.returns-then-rows-heads
returns-then-rows-heads c =
    not_sitting c.args.d.at _ _ _ c.args.c c.args.s (λ z. elim c.then-rows-heads.branch [
      | goal.then-rows-heads-via-then-rows-heads w ↦ omega arith
      | goal.then-rows-heads-via-else-rows-heads+then-row-rows w ↦ omega arith
      | goal.then-rows-heads-via-else-rows-heads+else-row-rows+then-live-marks w ↦ omega arith
      | goal.then-rows-heads-via-else-rows-heads+else-row-rows+else-live-marks+then-mark-live w ↦ omega arith
    ])

pub returns-then-c-values : goal.returns-then-c-values
returns-then-c-values c =
    not_sitting c.args.d.at _ _ _ c.args.c c.args.s (λ z. elim c.then-c-values.branch [
      | goal.then-c-values-via-then-c-values w ↦ omega arith
      | goal.then-c-values-via-else-c-values+then-s-c w ↦ omega arith
    ])

pub returns-then-q-live : goal.returns-then-q-live
returns-then-q-live c =
    let p = c.clear_place-q in
    let y = passing p.new.heads p.new.marks p.new.values p.result in
    elim c.then-q-live.branch [
      | goal.then-q-live-via-then-q-live w ↦ far_marks c.args.d.at _ _ _ c.args.c c.args.s y p.ensures w.if-q-live.true
      | goal.then-q-live-via-else-q-live+then-q-words w ↦ far_values c.args.d.at _ _ _ c.args.c c.args.s y p.ensures w.if-q-words.true
    ]

pub close-requires : goal.close-requires
close-requires c =
    let p = c.clear_place-q in
    let w = p.ensures.within in
    let l = p.auto.marks in
    let i = c.if-q-live.false in
    let j = c.if-live-marks.false in
    (w.marks_low, i, omega arith)

pub close-requires-2 : goal.close-requires-2
close-requires-2 c =
    let p = c.clear_place-q in
    let w = p.ensures.within in
    let l = p.auto.values in
    let i = c.if-q-words.false in
    let j = c.if-c-values.false in
    (w.values_low, i, omega arith)

pub returns : goal.returns
returns c =
    let p = c.clear_place-q in
    let y = passing p.new.heads p.new.marks p.new.values p.result in
    block_done c.args.d.at c.args.heads.now c.args.marks.now c.args.values.now c.args.c c.args.s y
    p.ensures c.close.new.t c.close-2.new.t c.close.ensures c.close-2.ensures
