use mathlib.Core.Path.{◌≡◌, ◌∙◌}
use lib.Dec.{eqb}
use Rattle.std.proofs.Common.{rules}
use Rattle.std.specs.List.{list_any}
use Rattle.counters.proofs.Entries.{spent_any}
use Rattle.counters.proofs.spent.Goals as goal

pub returns : goal.returns
returns c =
    let h : c.contains.result ≡ list_any (λ x. eqb x 4294967295) c.args.s.at = search rules in
    h ∙ spent_any c.args.s.at
