-- The verdict on an operation.
use mathlib.Core.Path.{refl, sym, ap, ◌∙◌}
use Rattle.std.specs.Prelude.{Ok}
use Rattle.std.proofs.lemmas.Result.{err_from_is_err_and}
use Rattle.judging.specs.Judging.{judgement_of}
use Rattle.judging.proofs.Judged.{judges_early, judges_refused, judges_ready}
use Rattle.judging.proofs.judge.Goals as goal

pub returns-in_err-readiness : goal.returns-in_err-readiness
returns-in_err-readiness c =
    let p = err_from_is_err_and c.from_residual.result c.from_residual.ensures.1 in
    rw (p.1, p.2) (judges_refused _ _ _ c.args.op _ c.judge_counters.ensures _ (c.in_err-readiness.was))

pub returns-in_err-judge_ready-in-Ready : goal.returns-in_err-judge_ready-in-Ready
returns-in_err-judge_ready-in-Ready c =
    let r = c.from_residual-in_err-judge_ready-in-Ready in
    let p = err_from_is_err_and r.result r.ensures.1 in
    rw (p.1, p.2) (judges_ready _ _ _ c.args.op _ c.judge_counters.ensures _ _ _
    (c.in_ok-readiness.was ∙ ap Ok c.in-Ready.is) (c.top_of-top.ensures _ _ _ refl) c.judge_ready.ensures
    (sym (ap judgement_of (c.in_err-judge_ready-in-Ready.was))))

pub returns-in_ok-judge_ready-in-Ready : goal.returns-in_ok-judge_ready-in-Ready
returns-in_ok-judge_ready-in-Ready c =
    judges_ready _ _ _ c.args.op _ c.judge_counters.ensures _ _ _
    (c.in_ok-readiness.was ∙ ap Ok c.in-Ready.is) (c.top_of-top.ensures _ _ _ refl) c.judge_ready.ensures
    (sym (ap judgement_of (c.in_ok-judge_ready-in-Ready.was)))

pub returns-in-Early : goal.returns-in-Early
returns-in-Early c =
    judges_early _ _ _ c.args.op _ c.judge_counters.ensures (c.in_ok-readiness.was ∙ ap Ok c.in-Early.is)
