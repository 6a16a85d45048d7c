-- `terminal::reset` meets its contract: each table is filled with 0. Assumes nothing.
use mathlib.Core.Path.{◌≡◌}
use lib.ListN.{length}
use borrow.Author.Rules.{rules}
use Rattle.terminal.proofs.Empty.{new_empties}
use Rattle.terminal.proofs.reset.Goals as goal

pub returns : goal.returns
returns c =
    let d = c.args.m.now.document.tables in
    let heads : length d.heads ≡ 264 = search rules in
    let keys : length d.keys ≡ 792 = search rules in
    let marks : length d.marks ≡ 1032 = search rules in
    let values : length d.values ≡ 1542 = search rules in
    let waiting : length c.args.m.now.waiting ≡ 2560 = search rules in
    rw (
      c.fill.ensures.after (λ y e. e),
      c.fill-2.ensures.after (λ y e. e),
      c.fill-3.ensures.after (λ y e. e),
      c.fill-4.ensures.after (λ y e. e),
      c.fill-5.ensures.after (λ y e. e),
      heads,
      keys,
      marks,
      values,
      waiting,
    ) new_empties
