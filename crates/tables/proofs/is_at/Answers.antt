-- `tables::is_at` meets its contract: whether the row at a place is the one that is looked for. Assumes nothing.
use native.Mathlib.Omega.{arith}
use mathlib.Core.Path.{subst, sym, ap₂, ◌∙◌}
use Rattle.tables.specs.Seek.{is_sought}
use Rattle.tables.specs.Stands.{Knows, knows_row}
use Rattle.tables.proofs.is_at.Goals as goal

pub returns-then-at-keys : goal.returns-then-at-keys
returns-then-at-keys c =
    subst (Knows _ _ _ _ _)
    (sym (c.is_sought.ensures ∙ ap₂ (is_sought _) c.head_at.ensures c.key_at.ensures))
    (knows_row _ _ _ _ _ (omega arith))
