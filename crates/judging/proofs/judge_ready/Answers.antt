-- 8, 9 and 10, of an operation that is ready.
use mathlib.Core.Path.{◌≡◌, refl, sym, ◌∙◌}
use Rattle.std.specs.Prelude.{Ok}
use Rattle.std.proofs.lemmas.Result.{err_from_is_err_and}
use Rattle.tables.specs.Either.{no}
use Rattle.judging.specs.Judging.{Small}
use Rattle.judging.proofs.Verdicts.{or_led, or_lost, judge_eight, judge_nine, judge_large, judge_ten, judge_taken}
use Rattle.judging.proofs.judge_ready.Goals.{then-not-is_small-via-then-not-is_small, then-not-is_small-via-else-not-is_small+then-not-has_room}
use Rattle.judging.proofs.judge_ready.Goals as goal

pub returns-in_err-w : goal.returns-in_err-w
returns-in_err-w c =
    let p = err_from_is_err_and c.from_residual.result c.from_residual.ensures.1 in
    let lost = or_lost _ _ _ (sym c.or.ensures ∙ c.in_err-w.was) in
    rw (p.1, p.2 ∙ lost.1) (judge_eight _ _ _ _ _ c.args.op _ refl _ _ c.weigh.ensures lost.0)

pub returns-then-goes_down : goal.returns-then-goes_down
returns-then-goes_down c =
    judge_nine _ _ _ _ _ c.args.op _ refl _ _ c.weigh.ensures _ (or_led _ _ _ (sym c.or.ensures ∙ c.in_ok-w.was)) _ _ refl refl
    (sym c.goes_down.ensures ∙ c.if-goes_down.true)

pub returns-then-not-is_small : goal.returns-then-not-is_small
returns-then-not-is_small c =
    let led : c.weigh.result ≡ Ok c.in_ok-w.w = or_led _ _ _ (sym c.or.ensures ∙ c.in_ok-w.was) in
    elim c.then-not-is_small.branch [
      | then-not-is_small-via-then-not-is_small w ↦
          judge_large _ _ _ _ _ c.args.op _ refl _ _ c.weigh.ensures _ led
          (no (Small _ _) _ c.is_small.result w.if-not-is_small.true c.is_small.ensures) _
      | then-not-is_small-via-else-not-is_small+then-not-has_room w ↦
          judge_ten _ _ _ _ _ c.args.op _ refl _ _ c.weigh.ensures _ led _ _ refl refl
          (sym c.goes_down.ensures ∙ c.if-goes_down.false) (sym w.has_room.ensures ∙ w.if-not-has_room.true)
    ]

pub returns : goal.returns
returns c =
    judge_taken _ _ _ _ _ c.args.op _ refl _ _ c.weigh.ensures _ (or_led _ _ _ (sym c.or.ensures ∙ c.in_ok-w.was)) _ _ refl refl
    (sym c.goes_down.ensures ∙ c.if-goes_down.false) (sym c.has_room.ensures ∙ c.if-not-has_room.false)
