use Prim.Native.Nat.{◌+◌, ◌*◌}
use mathlib.Core.Path.{◌≡◌, refl, sym, ap, ◌∙◌}
use mathlib.Core.Bool.{true, false, not}
use native.Mathlib.Omega.{arith}
use borrow.Author.Tests.{tests}
use Rattle.std.proofs.Common.{rules}
use Rattle.meaning.specs.Ids.{uncovered}
use Rattle.words.proofs.Rows.{row_in, counting_start, counting_no, counting_yes}
use Rattle.words.proofs.covered_rows.Goals as goal
use Rattle.words.proofs.covered_rows.Goals.{then-covered, else-covered}

pub loop-i-init : goal.loop-i-init
loop-i-init g c = counting_start _ _ _ _

pub loop-i-preserved : goal.loop-i-preserved
loop-i-preserved g c =
    let a = c.args in
    let l = c.loop-i in
    let W = g.row.W in
    let p = uncovered a.d.at in
    let at = a.from + l.i * W in
    let n = row_in l.i a.n W c.loop-i-test.true in
    elim c.if-covered.branch [
      | then-covered w ↦
          let yes : c.covered.result ≡ true = search (rules, tests) in
          rw w.r-is (counting_no W p a.from l.i l.r at a.t.now refl (omega arith) l.invariant
          (ap not (sym c.covered.ensures ∙ yes)))
      | else-covered w ↦
          let no : c.covered.result ≡ false = search (rules, tests) in
          rw w.r-is (counting_yes W p a.from l.i l.r at a.t.now refl (omega arith) l.invariant
          (ap not (sym c.covered.ensures ∙ no)))
    ]
