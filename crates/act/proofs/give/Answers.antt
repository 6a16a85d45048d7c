-- What an assign does at a row.
use mathlib.Core.Path.{◌≡◌, sym, ◌∙◌}
use borrow.Author.Tests.{tests}
use Rattle.std.specs.Prelude.{Some}
use Rattle.std.proofs.Common.{rules}
use Rattle.deeds.specs.Deeds.{branch_of, given_in}
use Rattle.act.proofs.Giving.{give_plain, give_branch}
use Rattle.act.proofs.give.Goals as goal

pub returns-in_default : goal.returns-in_default
returns-in_default c =
    give_plain _ _ _ _ _ _ _ _ _ _ _ _ _ _ _ _ _ _ (rw c.given_in-g.ensures at (sym c.branch_of.ensures ∙ c.in_default.is))
    (rw c.given_in-g.ensures at c.kind_of.ensures) (rw c.given_in-g.ensures at c.parts_of.ensures) c.mark_row-a.ensures
    c.set_value-counts.ensures

pub returns : goal.returns
returns c =
    let is : branch_of (given_in c.args.o.deed) ≡ Some c.in-Some.side = rw c.given_in-g.ensures at (sym c.branch_of.ensures ∙ c.in-Some.is) in
    give_branch _ _ _ _ _ _ _ _ _ _ _ _ _ _ _ _ _ _ _ c.clear_block-a.ensures c.mark_row-b.ensures
    c.flag_row.ensures (search (rules, tests, is))
