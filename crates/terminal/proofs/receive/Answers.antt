-- As the operation that was read is judged.
use mathlib.Core.Path.{◌≡◌, sym, ap, ◌∙◌}
use borrow.Author.Tests.{tests}
use Rattle.std.proofs.Common.{rules}
use Rattle.std.specs.Prelude.{Ok}
use Rattle.std.specs.Result.{result_ok}
use Rattle.std.proofs.lemmas.Result.{err_from_is_err_and}
use Rattle.terminal.proofs.Receiving.{receives_taken, receives_early, receives_refused}
use Rattle.terminal.proofs.receive.Goals as goal

pub returns-in_err-readiness : goal.returns-in_err-readiness
returns-in_err-readiness c =
    let p = err_from_is_err_and c.from_residual-in_err-readiness.result c.from_residual-in_err-readiness.ensures.1 in
    rw (p.1, p.2) (receives_refused _ _ (sym c.within.ensures ∙ c.if-not-within.false) _ c.take_message.ensures
    _ (c.ok_or.ensures.ok_part ∙ ap result_ok c.in_ok-op.was) _ _ c.apply_in.ensures _ (search (rules, tests)))

pub returns-in-Ready : goal.returns-in-Ready
returns-in-Ready c =
    let taken : c.apply_in.result ≡ Ok c.in_ok-readiness.readiness = search (rules, tests) in
    receives_taken _ _ (sym c.within.ensures ∙ c.if-not-within.false) _ c.take_message.ensures
    _ (c.ok_or.ensures.ok_part ∙ ap result_ok c.in_ok-op.was) _ _ c.apply_in.ensures
    (taken ∙ ap Ok c.in-Ready.is) _ _ c.settle_in-settled.ensures

pub returns-in-Early : goal.returns-in-Early
returns-in-Early c =
    let taken : c.apply_in.result ≡ Ok c.in_ok-readiness.readiness = search (rules, tests) in
    receives_early _ _ (sym c.within.ensures ∙ c.if-not-within.false) _ c.take_message.ensures
    _ (c.ok_or.ensures.ok_part ∙ ap result_ok c.in_ok-op.was) _ _ c.apply_in.ensures
    (taken ∙ ap Ok c.in-Early.is) _ _ c.wait.ensures
