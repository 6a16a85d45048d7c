-- `readers::take_byte` meets its contract.
-- Assumes nothing.
use native.Mathlib.Omega.{arith}
use mathlib.Core.Path.{◌∙◌}
use Rattle.readers.proofs.Texts.{byte_at, byte_differs}
use Rattle.readers.proofs.take_byte.Goals as goal

pub returns-then-branch-b : goal.returns-then-branch-b
returns-then-branch-b c =
    let h = c.in_ok-get.ensures.lookup.3 in
    byte_at _ _ _ h.0 (omega (arith, h.1 0))

pub returns-else-branch-b : goal.returns-else-branch-b
returns-else-branch-b c =
    let h = c.in_ok-get.ensures.lookup.3 in
    byte_differs _ _ _ h.0 (λ e. c.if-branch-b.false (h.1 0 ∙ e))
