-- `descend::descend` meets its contract. The measure: the words that are left of the way. Assumes nothing.
use native.Mathlib.Omega.{arith}
use mathlib.Core.Path.{refl, sym, ◌∙◌}
use Rattle.descend.proofs.Descending.{part_is, descend_ends, descend_deep}
use Rattle.descend.proofs.Descending.{descend_odd, descend_inserts, descend_stays, descend_finishes, descend_goes}
use Rattle.descend.proofs.+descend.Goals as goal

pub returns-then-left-lt3 : goal.returns-then-left-lt3
returns-then-left-lt3 t c = elim c.then-left-lt3.branch [
  | goal.then-left-lt3-via-then-left-lt3 w ↦ descend_ends c.args.o _ _ _ _ _ (omega arith)
  | goal.then-left-lt3-via-else-left-lt3+then-n-gt-DEEPEST w ↦ descend_deep c.args.o _ _ _ _ _ (omega arith)
]

pub returns-then-inserts_here : goal.returns-then-inserts_here
returns-then-inserts_here t c =
    descend_inserts c.args.o _ _ _ _ _ _ _ _ _ _ (sym c.inserts_here.ensures ∙ c.if-inserts_here.true) refl
    refl (omega arith) c.put_element.ensures

pub returns-in_default : goal.returns-in_default
returns-in_default t c =
    descend_stays c.args.o _ _ _ _ _ _ _ _ _ (omega (arith, c.if-left-lt3.false))
    (sym c.inserts_here.ensures ∙ c.if-inserts_here.false) refl refl refl (omega (arith, c.if-left-lt3.false))
    (omega (arith, c.if-n-gt-DEEPEST.false)) _ c.reach.result (c.reach.ensures _ _) c.in_default.is

pub returns-then-left-eq3 : goal.returns-then-left-eq3
returns-then-left-eq3 t c =
    descend_finishes c.args.o _ _ _ _ _ _ _ _ _ (omega (arith, c.if-left-lt3.false))
    (sym c.inserts_here.ensures ∙ c.if-inserts_here.false) refl refl refl (omega (arith, c.if-left-lt3.false))
    (omega (arith, c.if-n-gt-DEEPEST.false)) _ c.reach.result (c.reach.ensures _ _) _ _ _ _ _ _ _
    c.in-Some.is c.if-left-eq3.true c.finish.ensures

pub returns-then-left-lt6 : goal.returns-then-left-lt6
returns-then-left-lt6 t c =
    descend_odd c.args.o _ _ _ _ _ _ _ _ (omega (arith, c.if-left-lt3.false, c.if-left-eq3.false)) c.if-left-lt6.true

pub returns : goal.returns
returns t c =
    descend_goes c.args.o _ _ _ _ _ _ _ _ _ (omega (arith, c.if-left-lt3.false))
    (sym c.inserts_here.ensures ∙ c.if-inserts_here.false) refl refl refl (omega (arith, c.if-left-lt3.false))
    (omega (arith, c.if-n-gt-DEEPEST.false)) _ c.reach.result (c.reach.ensures _ _) _ _ _ _ _ _ _ _ _ _ _ _ _ _ _
    c.in-Some.is c.if-left-lt6.false (part_is c.args.way.now) c.side_by-side.ensures c.next_row-p.ensures
    c.descend-e.ensures c.enter.ensures
