-- `reads::place_at` meets its contract. Assumes nothing.
use Rattle.reads.specs.Gives.{nowhere}
use Rattle.finder.specs.declared.Absence.TheVariants.{Missing}
use Rattle.reads.proofs.Gives.{leads}
use Rattle.reads.proofs.Reaches.{reaches, reaches_none}
use Rattle.reads.proofs.place_at.Goals as goal

pub returns-then-way-gt-DEEPEST : goal.returns-then-way-gt-DEEPEST
returns-then-way-gt-DEEPEST c = nowhere Missing (reaches_none _ _ _ _ c.if-way-gt-DEEPEST.true)

pub returns : goal.returns
returns c = rw (c.or.ensures) (leads _ (reaches _ _ _ _ c.follow.result c.follow.ensures))
