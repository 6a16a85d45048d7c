-- `message::ways::take_place_way` meets its contract.
-- Assumes nothing.
use Rattle.message.proofs.Places.{refused, no_way, bytes_behind, ends_in_caret, a_place}
use Rattle.message.proofs.ways.take_place_way.Goals as goal
use Rattle.message.proofs.ways.take_place_way.Goals.{then-w-s-via-then-w-s, then-w-s-via-else-w-s+then-w-eq-CARET}

pub returns-in_err-w : goal.returns-in_err-w
returns-in_err-w c = rw c.from_residual.ensures (refused _ (no_way _ c.in_err-w.ensures))

pub returns-then-w-s : goal.returns-then-w-s
returns-then-w-s c =
    refused _
    (elim c.then-w-s.branch [
      | then-w-s-via-then-w-s w ↦ bytes_behind _ _ c.in_ok-w.ensures w.if-w-s.true
      | then-w-s-via-else-w-s+then-w-eq-CARET w ↦ ends_in_caret _ _ c.in_ok-w.ensures w.if-w-eq-CARET.true
    ])

pub returns : goal.returns
returns c = a_place _ _ c.in_ok-w.ensures c.if-w-s.false c.if-w-eq-CARET.false
