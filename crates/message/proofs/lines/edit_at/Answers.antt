-- `message::lines::edit_at` meets its contract: each part is taken where the one before it ends.
-- Assumes nothing.
use mathlib.Core.Path.{sym, ◌∙◌}
use Rattle.message.proofs.Edits.{refused, no_at, no_way, no_feed, no_deed, bytes_behind, unsuited, an_edit}
use Rattle.message.proofs.lines.edit_at.Goals as goal
use Rattle.message.proofs.lines.edit_at.Goals.{then-end-s-via-then-end-s, then-end-s-via-else-end-s+then-not-may}

pub returns-in_err-n : goal.returns-in_err-n
returns-in_err-n c = rw c.from_residual.ensures (refused _ (no_at _ _ c.in_err-n.ensures))

pub returns-in_err-w : goal.returns-in_err-w
returns-in_err-w c = rw c.from_residual-in_err-w.ensures (refused _ (no_way _ _ _ c.in_ok-n.ensures c.in_err-w.ensures))

pub returns-in_err-o : goal.returns-in_err-o
returns-in_err-o c =
    rw c.from_residual-in_err-o.ensures (refused _ (no_feed _ _ _ c.in_ok-n.ensures _ c.in_ok-w.ensures c.in_err-o.ensures))

pub returns-in_err-deed : goal.returns-in_err-deed
returns-in_err-deed c =
    rw c.from_residual-in_err-deed.ensures
    (refused _ (no_deed _ _ _ c.in_ok-n.ensures _ c.in_ok-w.ensures _ c.in_ok-o.ensures c.in_err-deed.ensures))

pub returns-then-end-s : goal.returns-then-end-s
returns-then-end-s c =
    refused _
    (elim c.then-end-s.branch [
      | then-end-s-via-then-end-s w ↦
          bytes_behind _ _ _ c.in_ok-n.ensures _ c.in_ok-w.ensures _ c.in_ok-o.ensures _ _ c.in_ok-deed.ensures w.if-end-s.true
      | then-end-s-via-else-end-s+then-not-may w ↦
          unsuited _ _ _ c.in_ok-n.ensures _ c.in_ok-w.ensures _ c.in_ok-o.ensures _ _ c.in_ok-deed.ensures
          (sym w.may.ensures ∙ w.if-not-may.true)
    ])

pub returns : goal.returns
returns c =
    an_edit _ _ _ c.in_ok-n.ensures _ c.in_ok-w.ensures _ c.in_ok-o.ensures _ _ c.in_ok-deed.ensures c.if-end-s.false
    (sym c.may.ensures ∙ c.if-not-may.false)
