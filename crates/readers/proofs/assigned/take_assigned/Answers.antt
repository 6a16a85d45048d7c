-- `readers::assigned::take_assigned` meets its contract: the first letter decides.
-- Assumes nothing.
use native.Mathlib.Omega.{arith}
use Rattle.readers.proofs.Values.{no_assigned_end, is-map, is_list, plain_given_lem}
use Rattle.readers.proofs.assigned.take_assigned.Goals as goal

pub returns-in_err-get : goal.returns-in_err-get
returns-in_err-get c = rw c.from_residual.ensures (no_assigned_end _ _ c.in_err-get.ensures.lookup.3)

pub returns-in-123 : goal.returns-in-123
returns-in-123 c = is-map _ _ _ c.in_ok-get.ensures.lookup.3 c.in-123.is

pub returns-in-91 : goal.returns-in-91
returns-in-91 c = is_list _ _ _ c.in_ok-get.ensures.lookup.3 c.in-91.is

pub returns-in_default : goal.returns-in_default
returns-in_default c =
    plain_given_lem _ _ _ c.in_ok-get.ensures.lookup.3 (λ h. omega arith) (λ h. omega arith) c.take_plain.result
    c.take_plain.ensures
