-- `tables::head_at` meets its contract. Assumes nothing.
use mathlib.Core.Path.{ap, ◌∙◌}
use Rattle.tables.specs.Heads.{head_in}
use Rattle.tables.proofs.head_at.Goals as goal

pub returns : goal.returns
returns c = c.head_in.ensures ∙ ap head_in c.word.ensures
