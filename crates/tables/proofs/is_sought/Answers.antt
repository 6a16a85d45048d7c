-- `tables::is_sought` meets its contract. Assumes nothing.
use mathlib.Core.Path.{◌∙◌}
use borrow.Author.Tests.{eq-eqb}
use Rattle.tables.specs.Seek.{is_sought}
use Rattle.tables.proofs.Turns.{turn_same}
use Rattle.tables.proofs.is_sought.Goals as goal

pub returns-in-Key-Map : goal.returns-in-Key-Map
unfolding is_sought
returns-in-Key-Map c = rw (eq-eqb _ _ c.if-h-w.true, c.in-Key-Map.is-0, c.in-Key-Map.is-1) (c.eq.ensures ∙ turn_same _ _)
