-- `finder::look` meets its contract. Assumes nothing.
use mathlib.Core.Path.{◌≡◌}
use Rattle.std.specs.Prelude.{None, Some}
use Rattle.std.specs.Bool.{then_some}
use borrow.Author.Tests.{tests}
use Rattle.std.proofs.Common.{rules}
use Rattle.finder.proofs.Looks.{looks_none, looks_found}
use Rattle.finder.proofs.look.Goals as goal

pub returns-in_err-from : goal.returns-in_err-from
returns-in_err-from c =
    let none : c.args.from ≡ None = search rules in
    looks_none _ _ _ _ _ _ _ none c.from_residual.ensures

pub returns : goal.returns
returns c =
    let some : c.args.from ≡ Some c.in_ok-from.from = search rules in
    let told : c.then_some.result ≡ then_some c.is_at.result c.find-at.result = search (rules, tests, some) in
    looks_found _ _ _ _ _ _ _ _ _ _ _ some c.search_of-w.ensures c.find-at.ensures c.is_at.ensures told
