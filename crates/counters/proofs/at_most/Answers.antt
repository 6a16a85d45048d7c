use mathlib.Core.Path.{◌∙◌}
use native.Mathlib.Omega.{arith}
use borrow.Author.Tests.{tests}
use lib.Dec.{leb}
use Rattle.std.proofs.Common.{rules}
use Rattle.std.proofs.lemmas.Iterator.{YieldsList-from_slice, YieldsList-from_zip}
use Rattle.std.proofs.lemmas.Iterator.Search.{all_from_yields_List}
use Rattle.counters.proofs.Entries.{at_most_all}
use Rattle.counters.proofs.at_most.Goals as goal

pub returns : goal.returns
returns c =
    all_from_yields_List (λ p. leb p.0 p.1) c.all.new.self _ c.all.result c.all.ensures.ran
    (YieldsList-from_zip (YieldsList-from_slice c.args.d.at (cc)) (YieldsList-from_slice c.args.s.at (cc)))
    (λ x b q k. search (rules, tests))
    ∙ at_most_all c.args.d.at c.args.s.at (omega arith)
