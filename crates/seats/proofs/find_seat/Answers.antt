-- The seat of a new element.
use native.Mathlib.Omega.{arith}
use Rattle.seats.proofs.Seating.{seat_head, seat_none, seat_after}
use Rattle.seats.proofs.find_seat.Goals as goal

pub returns-then-not-is_at : goal.returns-then-not-is_at
returns-then-not-is_at c =
    seat_none _ _ _ _ _ _ _ _ _ (λ e. omega (arith, e)) c.find-at.ensures _ c.is_at.ensures c.if-not-is_at.true

pub returns : goal.returns
returns c =
    seat_after _ _ _ _ _ _ _ _ _ (λ e. omega (arith, e)) c.find-at.ensures _ c.is_at.ensures _ _
    c.if-not-is_at.false c.next_row-next.ensures c.find-2.ensures

pub returns-then-prev-eq-CARET : goal.returns-then-prev-eq-CARET
returns-then-prev-eq-CARET c = seat_head _ _ _ _ _ _ _ _ _ (omega arith) c.find.ensures
