-- `edit::carry` meets its contract: 8, 9, 10, else it is finished.
-- Assumes nothing.
use mathlib.Core.Path.{refl}
use borrow.Author.Tests.{tests}
use Rattle.std.proofs.Common.{rules}
use Rattle.std.proofs.lemmas.Result.{err_from_is_err_and}
use Rattle.edit.proofs.Editing.{carry_refused, carry_taken}
use Rattle.edit.proofs.carry.Goals as goal

pub returns-in_err-judge_ready : goal.returns-in_err-judge_ready
returns-in_err-judge_ready c =
    let p = err_from_is_err_and c.from_residual.result c.from_residual.ensures.1 in
    rw (p.1, p.2) (carry_refused _ _ c.args.op _ _ (c.top_of-top.ensures _ _ _ refl) _ c.judge_ready.ensures _ (search (rules, tests)))

pub returns : goal.returns
returns c =
    carry_taken _ _ c.args.op _ _ (c.top_of-top.ensures _ _ _ refl) _ c.judge_ready.ensures (search (rules, tests)) _ _ _ c.finish.ensures
