-- `forecast::weigh_last` meets its contract: an insert behind the head, behind an element that is there, or behind none; or the place of an
-- assign or a delete. Assumes nothing.
use mathlib.Core.Path.{sym, ap, ◌∙◌}
use Rattle.std.specs.Result.{result_ok}
use Rattle.std.proofs.lemmas.Result.{err_from_is_err_and}
use Rattle.tables.proofs.Absent.{told}
use Rattle.forecast.proofs.Ways.{insert_first, insert_there, insert_missing, target_weighed}
use Rattle.forecast.proofs.weigh_last.Goals as goal

pub returns-then-key-eq-CARET : goal.returns-then-key-eq-CARET
returns-then-key-eq-CARET c =
    rw c.element.ensures (insert_first _ _ _ _ _ _ _ _ _ _ _ c.in-Insert.is c.if-key-eq-CARET.true)

pub returns-in_err-ok_or : goal.returns-in_err-ok_or
returns-in_err-ok_or c =
    let p = err_from_is_err_and c.from_residual.result c.from_residual.ensures.1 in
    rw (p.1, p.2 ∙ told _ _ _ (sym c.ok_or.ensures.value ∙ c.in_err-ok_or.was))
    (insert_missing _ _ _ _ _ _ _ _ _ _ _ c.in-Insert.is _ c.if-key-eq-CARET.false c.look.ensures
    (c.ok_or.ensures.ok_part ∙ ap result_ok c.in_err-ok_or.was))

pub returns-in-Insert : goal.returns-in-Insert
returns-in-Insert c =
    rw (c.ok_or-in-Insert.ensures.value, c.then_some.ensures, c.covered.ensures, c.element-u.ensures)
    (insert_there _ _ _ _ _ _ _ _ _ _ _ c.in-Insert.is _ c.if-key-eq-CARET.false c.look.ensures _
    (c.ok_or.ensures.ok_part ∙ ap result_ok c.in_ok-ok_or.was))

pub returns : goal.returns
returns c =
    rw (c.carry.ensures, c.is_some.ensures, c.covered-2.ensures, c.is_delete.ensures)
    (target_weighed _ _ _ _ _ _ _ _ _ _ _ _ c.in_default.not-Insert c.look-at.ensures c.weigh_place-u.ensures)
