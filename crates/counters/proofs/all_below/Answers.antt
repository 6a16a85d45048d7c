use mathlib.Core.Path.{◌∙◌}
use borrow.Author.Tests.{tests}
use lib.Dec.{ltb}
use Rattle.std.proofs.Common.{rules}
use Rattle.std.proofs.lemmas.Iterator.{YieldsList-from_slice}
use Rattle.std.proofs.lemmas.Iterator.Search.{all_from_yields_List}
use Rattle.counters.proofs.Entries.{all_below_all}
use Rattle.counters.proofs.all_below.Goals as goal

pub returns : goal.returns
returns c =
    all_from_yields_List (λ x. ltb x c.args.c) c.all.new.self _ c.all.result c.all.ensures.ran (YieldsList-from_slice c.args.d.at (cc))
    (λ x b q k. search (rules, tests))
    ∙ all_below_all c.args.c c.args.d.at
