-- A place that the way goes on from.
use mathlib.Core.Path.{sym, ◌∙◌}
use Rattle.descend.proofs.Entering.{enter_deleting, enter_marking}
use Rattle.descend.proofs.enter.Goals as goal

pub returns-then-is_delete : goal.returns-then-is_delete
returns-then-is_delete c =
    enter_deleting c.args.o _ _ _ _ _ _ _ _
    (sym c.is_delete.ensures ∙ c.if-is_delete.true) c.flag_row.ensures

pub returns : goal.returns
returns c =
    enter_marking c.args.o _ _ _ _ _ _ _ _ _ _ _ _
    (sym c.is_delete.ensures ∙ c.if-is_delete.false) c.mark_row-e.ensures c.flag_row-2.ensures
