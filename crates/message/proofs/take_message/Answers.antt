-- `message::take_message` meets its contract: a head, and an edit's lines behind it.
-- Assumes nothing.
use mathlib.Core.Path.{◌≡◌}
use Rattle.std.specs.Prelude.{None, Some}
use Rattle.std.proofs.Common.{rules}
use Rattle.message.proofs.Messages.{no_message, half_message, a_message}
use Rattle.message.proofs.take_message.Goals as goal

pub returns-in_err-id : goal.returns-in_err-id
returns-in_err-id c =
    let none : c.take_head.result ≡ None = search rules in
    rw c.from_residual.ensures (no_message _ (rw none at c.take_head.ensures))

pub returns-in_err-way : goal.returns-in_err-way
returns-in_err-way c =
    let some : c.take_head.result ≡ Some (c.in_ok-id.id, c.in_ok-id.deps, c.in_ok-id.n) = search rules in
    rw c.from_residual-in_err-way.ensures (half_message _ _ _ _ (rw some at c.take_head.ensures) c.in_err-way.ensures)

pub returns : goal.returns
returns c =
    let some : c.take_head.result ≡ Some (c.in_ok-id.id, c.in_ok-id.deps, c.in_ok-id.n) = search rules in
    a_message _ _ _ _ (rw some at c.take_head.ensures) _ c.in_ok-way.ensures
