-- `reads::element` meets its contract: 14, what is given of the place where the way leads. Assumes nothing.
use mathlib.Core.Path.{sym, ◌∙◌}
use Rattle.std.proofs.lemmas.Result.{err_from_is_err_and}
use Rattle.std.specs.Prelude.{Ok, Err}
use Rattle.reads.proofs.Gives.{gives_absent, gives_element, led, lost}
use Rattle.reads.proofs.Asks.{too_many, keys-room, element_asked}
use Rattle.reads.proofs.element.Goals as goal

pub returns-then-not-within : goal.returns-then-not-within
returns-then-not-within c = too_many _ _ _ _ _ _ _ keys-room (sym c.if-not-within.ensures)

pub returns-in_err-at : goal.returns-in_err-at
returns-in_err-at c =
    let e = err_from_is_err_and c.from_residual-in_err-at.result c.from_residual-in_err-at.ensures.1 in
    let a = lost _ c.place_at.ensures c.in_err-at.was in
    rw (e.1, e.2 ∙ a.2)
    (element_asked _ _ _ _ _ _ _ (sym c.if-not-within.ensures) _ c.in_ok-led.ensures.ok_part (Err a.0) a.1
    c.args.index c.take_element_way.ensures (gives_absent _ _ _ _ _))

pub returns : goal.returns
returns c =
    element_asked _ _ _ _ _ _ _ (sym c.if-not-within.ensures) _ c.in_ok-led.ensures.ok_part (Ok c.in_ok-at.at)
    (led _ c.place_at.ensures c.in_ok-at.was)
    c.args.index c.take_element_way.ensures (gives_element _ _ _ _ _ c.next_row-next.ensures _ _ _ _ _ c.element.ensures)
