use native.Mathlib.Omega.{arith}
use mathlib.Core.Path.{ap}
use mathlib.Core.List.{[]}
use Rattle.meaning.specs.Read.{not_there, listed}
use Rattle.listings.specs.Texts.{values_from}
use Rattle.listings.proofs.Answered.{not_there_lem, gives}
use Rattle.listings.proofs.Valued.{values_low, values_are}
use Rattle.listings.proofs.values.Goals as goal

pub returns-then-at-gt-VALUES_ROOM : goal.returns-then-at-gt-VALUES_ROOM
returns-then-at-gt-VALUES_ROOM c =
    gives not_there (λ p o. absurd (omega (arith, values_low _ _ _ p o, c.if-at-gt-VALUES_ROOM.true))) (not_there_lem _)

pub returns : goal.returns
returns c =
    let a = c.args in
    gives (listed (values_from [] a.values.now a.at.value c.head_at-h.result.values))
    (λ p o. ap listed (values_are a.heads.now a.values.now a.at p o c.head_at-h.ensures)) (rw c.values_of.ensures.text at c.give.ensures)
