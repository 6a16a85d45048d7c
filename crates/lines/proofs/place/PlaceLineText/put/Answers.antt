use mathlib.Core.Path.{sym}
use Rattle.writers.proofs.Over.{wrote_as}
use Rattle.writers.proofs.Texts.{fits_as}
use Rattle.lines.proofs.Spots.{key_line, element_line, key_short}
use Rattle.lines.proofs.place.PlaceLineText.put.Goals as goal

pub put-requires : goal.put-requires
put-requires c =
    let p = rw c.key_bytes.ensures at c.in_parts.ensures in
    rw p.2 ((tt, ((tt, (tt, key_short c.in-Key.is c.requires.0)), tt)), fits_as (key_line _ _ _ p.1 c.in-Key.is) c.requires.1)

pub put-requires-in-Element : goal.put-requires-in-Element
put-requires-in-Element c =
    let p = c.in_parts-in-Element.ensures in
    rw p.2 ((tt, ((tt, (tt, tt)), tt)), fits_as (element_line _ _ _ p.1 c.in-Element.is) c.requires.1)

pub returns-in-Key : goal.returns-in-Key
returns-in-Key c =
    let p = rw c.key_bytes.ensures at c.in_parts.ensures in
    wrote_as (sym (key_line _ _ _ p.1 c.in-Key.is)) (rw p.2 at c.put.ensures)

pub returns-in-Element : goal.returns-in-Element
returns-in-Element c =
    let p = c.in_parts-in-Element.ensures in
    wrote_as (sym (element_line _ _ _ p.1 c.in-Element.is)) (rw p.2 at c.put-in-Element.ensures)
