-- A new element.
use mathlib.Core.Path.{refl}
use Rattle.act.proofs.Inserting.{insert_stays, insert_new}
use Rattle.act.proofs.put_element.Goals as goal

pub returns-in_default : goal.returns-in_default
returns-in_default c =
    insert_stays c.args.o _ _ _ _ _ _ _ _ _ c.find_seat.result c.find_seat.ensures c.in_default.is

pub returns : goal.returns
returns c =
    insert_new c.args.o _ _ _ _ _ _ _ _ _ c.find_seat.result c.find_seat.ensures _ _ _ _ _ _
    _ _ _ _ c.in-Some.is c.open_row-e.ensures refl
    c.give.ensures
