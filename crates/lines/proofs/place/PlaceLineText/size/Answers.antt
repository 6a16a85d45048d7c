use native.Mathlib.Omega.{arith}
use Rattle.writers.proofs.Texts.{sized-of}
use Rattle.lines.proofs.Spots.{key_line, element_line}
use Rattle.lines.proofs.place.PlaceLineText.size.Goals as goal

pub returns-in-Key : goal.returns-in-Key
returns-in-Key c =
    let p = rw c.key_bytes.ensures at c.in_parts.ensures in
    let s = sized-of {bound = 70} (key_line _ _ _ p.1 c.in-Key.is) (omega arith) (rw p.2 at c.size.ensures) in
    record { size = omega (arith, s.size); most = omega (arith, s.most) }

pub returns-in-Element : goal.returns-in-Element
returns-in-Element c =
    let p = c.in_parts-in-Element.ensures in
    let s = sized-of {bound = 70} (element_line _ _ _ p.1 c.in-Element.is) (omega arith) (rw p.2 at c.size-in-Element.ensures) in
    record { size = omega (arith, s.size); most = omega (arith, s.most) }
