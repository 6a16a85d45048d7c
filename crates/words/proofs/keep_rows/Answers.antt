use Prim.Native.Nat.{◌+◌, ◌*◌}
use mathlib.Core.Path.{◌≡◌, refl, sym, ap, ◌∙◌}
use mathlib.Core.Bool.{true, false, not}
use native.Mathlib.Omega.{arith}
use borrow.Author.Tests.{tests}
use Rattle.std.proofs.Common.{rules}
use Rattle.meaning.specs.Ids.{uncovered}
use Rattle.words.proofs.Moves.{lowering_start, lowering_more}
use Rattle.words.proofs.Rows.{row_in, keeping_start, keeping_yes, keeping_no}
use Rattle.words.proofs.keep_rows.Goals as goal
use Rattle.words.proofs.keep_rows.Goals.{then-not-covered+else-loop-k-test, else-not-covered}

pub loop-i-init : goal.loop-i-init
loop-i-init g c = keeping_start _ _ _ _ _

pub loop-i-preserved : goal.loop-i-preserved
loop-i-preserved g c =
    let a = c.args in
    let l = c.loop-i in
    let W = g.row.W in
    let p = uncovered a.d.at in
    let at = a.from + l.i * W in
    let n = row_in l.i a.n W c.loop-i-test.true in
    elim c.if-not-covered.branch [
      | then-not-covered+else-loop-k-test w ↦
          let no : c.covered.result ≡ false = search (rules, tests) in
          rw (w.t-is, w.w-is) (keeping_yes W p a.from a.to l.i l.w at a.t.now l.t c.requires.1 refl (omega arith) l.invariant
          (ap not (sym c.covered.ensures ∙ no)) w.loop-k.t w.loop-k.k (omega arith) w.loop-k.invariant)
      | else-not-covered w ↦
          let yes : c.covered.result ≡ true = search (rules, tests) in
          rw (w.t-is, w.w-is) (keeping_no W p a.from a.to l.i l.w at a.t.now l.t c.requires.1 refl (omega arith) l.invariant
          (ap not (sym c.covered.ensures ∙ yes)))
    ]

pub loop-k-init : goal.loop-k-init
loop-k-init g c = lowering_start _ _ _

pub loop-k-preserved : goal.loop-k-preserved
loop-k-preserved g c =
    let a = c.args in
    let l = c.loop-i in
    let W = g.row.W in
    let K = l.invariant in
    let n = row_in l.i a.n W c.loop-i-test.true in
    lowering_more (a.from + l.i * W) l.w c.loop-k.k l.t c.loop-k.t (omega (arith, K.high, c.requires.1))
    (omega (arith, K.len, c.requires.2, c.loop-k-test.true)) c.loop-k.invariant
