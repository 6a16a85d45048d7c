-- An operation waits where it was put in, and where it wasn't there is no room. Assumes nothing.
use mathlib.Core.Path.{sym, ap, ◌∙◌}
use Rattle.std.specs.Result.{result_ok}
use Rattle.std.proofs.lemmas.Result.{err_from_is_err_and}
use Rattle.tables.proofs.Absent.{told}
use Rattle.terminal.proofs.Receiving.{awaits_full, awaits_put}
use Rattle.terminal.proofs.wait.Goals as goal

pub returns-in_err-m : goal.returns-in_err-m
returns-in_err-m c =
    let p = err_from_is_err_and c.from_residual.result c.from_residual.ensures.1 in
    rw (p.1, p.2 ∙ told _ _ _ (sym c.ok_or.ensures.value ∙ c.in_err-m.was))
    (awaits_full _ _ _ c.waits.ensures c.if-waits.false _ _ c.put.ensures (c.ok_or.ensures.ok_part ∙ ap result_ok c.in_err-m.was))

pub returns : goal.returns
returns c =
    awaits_put _ _ _ c.waits.ensures c.if-waits.false _ _ c.put.ensures _ (c.ok_or.ensures.ok_part ∙ ap result_ok c.in_ok-m.was)
