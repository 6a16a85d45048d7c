-- `message::ways::take_keys_way` meets its contract.
-- Assumes nothing.
use mathlib.Core.Path.{sym}
use borrow.Author.Tests.{eqb-true, eqb-false}
use Rattle.message.specs.Means.{pad}
use Rattle.message.proofs.Places.{ahead, root, no_brace, behind_brace}
use Rattle.message.proofs.ways.take_keys_way.Goals as goal

pub returns-then-is_empty : goal.returns-then-is_empty
unfolding pad
returns-then-is_empty c = root _ (eqb-true _ _ (sym c.if-is_empty.ensures))

pub returns-in_err-strip_suffix : goal.returns-in_err-strip_suffix
returns-in_err-strip_suffix c = rw c.from_residual.ensures (no_brace _ (eqb-false _ _ (sym c.if-is_empty.ensures)) c.in_err-strip_suffix.ensures.cases)

pub returns : goal.returns
returns c =
    let h = c.in_ok-strip_suffix.ensures in
    behind_brace _ _ _ (ahead _ _ _ h.cases.0 h.cases.1) c.take_place_way.ensures
