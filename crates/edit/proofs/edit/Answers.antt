-- `edit::edit` meets its contract: room; the device's number; the layout; 11; then as its operation is judged.
-- Assumes nothing.
use native.Mathlib.Omega.{arith}
use mathlib.Core.Path.{sym}
use Rattle.edit.proofs.Answered.{edit_beyond, edit-short, edit-last, edit-carried}
use Rattle.edit.proofs.edit.Goals as goal

pub returns-then-not-within : goal.returns-then-not-within
returns-then-not-within c = edit_beyond _ _ _ _ (sym c.if-not-within.ensures)

pub returns-then-largest-ge-LAST_COUNTER : goal.returns-then-largest-ge-LAST_COUNTER
returns-then-largest-ge-LAST_COUNTER c =
    edit-last _ _ _ _ (sym c.if-not-within.ensures) _ c.take_edit.ensures _ c.in_ok-e.ensures.ok_part (omega (arith, c.if-device-eq0.false))
    c.if-device-gt-TERMINALS.false _ c.largest-largest.ensures c.if-largest-ge-LAST_COUNTER.true

pub carry-requires : goal.carry-requires
carry-requires c = edit-short _ _ c.take_edit.ensures _ c.in_ok-e.ensures.ok_part

pub returns : goal.returns
returns c =
    edit-carried _ _ _ _ (sym c.if-not-within.ensures) _ c.take_edit.ensures _ c.in_ok-e.ensures.ok_part
    (omega (arith, c.if-device-eq0.false)) c.if-device-gt-TERMINALS.false _ c.largest-largest.ensures c.if-largest-ge-LAST_COUNTER.false _
    c.operation_of-op.ensures _ _ _ c.carry.ensures
