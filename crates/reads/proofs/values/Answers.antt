-- `reads::values` meets its contract: 14, what is given of the place where the way leads. Assumes nothing.
use mathlib.Core.Path.{sym, ◌∙◌}
use Rattle.std.proofs.lemmas.Result.{err_from_is_err_and}
use Rattle.std.specs.Prelude.{Ok, Err}
use Rattle.reads.proofs.Gives.{gives_absent, gives_values, led, lost}
use Rattle.reads.proofs.Asks.{too_many, values-room, values-asked}
use Rattle.reads.proofs.values.Goals as goal

pub returns-then-not-within : goal.returns-then-not-within
returns-then-not-within c = too_many _ _ _ _ _ _ _ values-room (sym c.if-not-within.ensures)

pub returns-in_err-at : goal.returns-in_err-at
returns-in_err-at c =
    let e = err_from_is_err_and c.from_residual-in_err-at.result c.from_residual-in_err-at.ensures.1 in
    let a = lost _ c.place_at.ensures c.in_err-at.was in
    rw (e.1, e.2 ∙ a.2)
    (values-asked _ _ _ _ _ _ _ (sym c.if-not-within.ensures) _ c.in_ok-led.ensures.ok_part (Err a.0) a.1 _
    c.take_place_way.ensures (λ n. gives_absent _ n _ _ _))

pub returns : goal.returns
returns c =
    values-asked _ _ _ _ _ _ _ (sym c.if-not-within.ensures) _ c.in_ok-led.ensures.ok_part (Ok c.in_ok-at.at)
    (led _ c.place_at.ensures c.in_ok-at.was) _
    c.take_place_way.ensures (gives_values _ _ _ _ _ _ c.values.ensures)
