-- The number of a plain value's kind.
use mathlib.Core.Path.{sym, ap, ◌∙◌}
use Rattle.deeds.specs.Deeds.{kind_of}
use Rattle.deeds.proofs.kind_of.Goals as goal

pub returns-in-String : goal.returns-in-String
returns-in-String c = c.string_kind.ensures ∙ sym (ap kind_of c.in-String.is)
