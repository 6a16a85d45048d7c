-- `stream::next_piece` meets its contract.
-- Assumes nothing.
use native.Mathlib.Omega.{arith}
use mathlib.Core.Path.{sym, ap, subst, ◌∙◌}
use mathlib.Core.Logic.{inl, inr}
use lib.Seq.{length-take-le}
use Rattle.stream.specs.Pieces.{Waits, Steps}
use Rattle.stream.specs.declared.Step.TheVariants.{More}
use Rattle.stream.proofs.Pieces.{empties, hands_inside, hands_last, holds_back, step_empty, step_inside, step-last, step_back}
use Rattle.stream.proofs.next_piece.Goals as goal

pub slice_bounds-next_message-end : goal.slice_bounds-next_message-end
slice_bounds-next_message-end c =
    sym (length-take-le _ _ c.requires.high)

pub returns-then-last : goal.returns-then-last
returns-then-last c =
    let b = c.args.buf.now in
    let k = c.args.c in
    let e = c.next_message-e.result in
    elim c.if-last.either [
      | inl h ↦ record {
        steps = subst (Steps b k c.args.last) (sym c.hand.ensures)
            (hands_inside b k c.requires e c.next_message-e.ensures c.if-from-to.false c.args.last h);
        value = c.hand.ensures ∙ step_inside b k c.requires e c.next_message-e.ensures c.if-from-to.false c.args.last h;
      }
      | inr h ↦ record {
        steps = subst (Steps b k c.args.last) (sym c.hand.ensures)
            (hands_last b k c.requires e c.next_message-e.ensures c.if-from-to.false c.args.last h.1);
        value = c.hand.ensures ∙ step-last b k c.requires e c.next_message-e.ensures c.if-from-to.false c.args.last h.1;
      }
    ]

pub returns-else-last : goal.returns-else-last
returns-else-last c =
    let b = c.args.buf.now in
    let k = c.args.c in
    let e = c.next_message-e.result in
    let h = c.if-last.false in
    record {
      steps = subst (Waits b k c.args.last) (sym c.wait.ensures)
          (holds_back b k c.requires e c.next_message-e.ensures c.if-from-to.false c.args.last h.0 h.1);
      value = ap More c.wait.ensures ∙ step_back b k c.requires e c.next_message-e.ensures c.if-from-to.false c.args.last h.0 h.1;
    }

pub returns-then-from-to : goal.returns-then-from-to
returns-then-from-to c = record {
  steps = empties _ _ c.requires _ c.if-from-to.true;
  value = step_empty _ _ _ c.if-from-to.true;
}

pub hand-requires : goal.hand-requires
hand-requires c = omega (arith, c.next_message-e.ensures.place)
