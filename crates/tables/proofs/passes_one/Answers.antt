-- `tables::passes_one` meets its contract. Assumes nothing.
use mathlib.Core.Path.{◌∙◌}
use Rattle.tables.specs.Seek.{passes_one}
use Rattle.tables.proofs.Turns.{turn_greater}
use Rattle.tables.proofs.passes_one.Goals as goal

pub returns-in-Key-Map : goal.returns-in-Key-Map
unfolding passes_one
returns-in-Key-Map c = rw (c.in-Key-Map.is-0, c.in-Key-Map.is-1) (c.gt.ensures ∙ turn_greater _ _)
