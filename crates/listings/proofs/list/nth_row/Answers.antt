use native.Mathlib.Omega.{arith}
use mathlib.Core.Path.{sym, ◌∙◌}
use Rattle.listings.proofs.Elements.{still_less, still_same, counting_end, counting_stop, counting_here, counting_on}
use Rattle.listings.proofs.list.nth_row.Goals.{then-is_listed+else-n-eq0, else-is_listed}
use Rattle.listings.proofs.list.nth_row.Goals as goal

pub returns-then-h-depth : goal.returns-then-h-depth
returns-then-h-depth c =
    counting_stop c.args.heads.now c.args.rows c.args.from c.args.depth c.args.index c.loop-i.invariant c.loop-i-test.true c.head_in-h.ensures c.if-h-depth.true

pub returns-then-n-eq0 : goal.returns-then-n-eq0
returns-then-n-eq0 c =
    counting_here c.args.heads.now c.args.rows c.args.from c.args.depth c.args.index c.loop-i.invariant c.loop-i-test.true c.head_in-h.ensures c.if-h-depth.false
    (still_less _ _ _ (sym c.is_listed.ensures ∙ c.if-is_listed.true)) c.requires.1 c.if-n-eq0.true

pub loop-i-preserved : goal.loop-i-preserved
loop-i-preserved c =
    elim c.if-is_listed.branch [
      | then-is_listed+else-n-eq0 w ↦ counting_on c.args.heads.now c.args.rows c.args.from c.args.depth c.args.index c.loop-i.invariant c.loop-i-test.true
          c.head_in-h.ensures c.if-h-depth.false (w.n-is ∙ still_less _ _ _ (sym c.is_listed.ensures ∙ w.if-is_listed.true))
          (λ z. w.if-n-eq0.false (sym w.n-is ∙ z))
      | else-is_listed w ↦ counting_on c.args.heads.now c.args.rows c.args.from c.args.depth c.args.index c.loop-i.invariant c.loop-i-test.true
          c.head_in-h.ensures c.if-h-depth.false (w.n-is ∙ still_same _ _ _ (sym c.is_listed.ensures ∙ w.if-is_listed.false))
          (λ z. omega (arith, c.loop-i.invariant.some, z, w.n-is))
    ]

pub returns : goal.returns
returns c = counting_end c.args.heads.now c.args.rows c.args.from c.args.depth c.args.index c.loop-i.invariant c.loop-i-test.false
