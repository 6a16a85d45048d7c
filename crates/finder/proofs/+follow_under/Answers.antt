-- `finder::follow_under` meets its contract. The measure: the words that are left of the way. Assumes nothing.
use mathlib.Core.Path.{sym, ap, ◌∙◌}
use Rattle.std.specs.Result.{result_ok}
use Rattle.std.proofs.lemmas.Result.{err_from_is_err_and}
use Rattle.tables.proofs.Absent.{told}
use Rattle.finder.proofs.Follows.{follows_missing, follows_unmarked, follows_standing, follows_on, none_left, some_left}
use Rattle.finder.proofs.+follow_under.Goals as goal

pub returns-in_err-at : goal.returns-in_err-at
returns-in_err-at t c =
    let p = err_from_is_err_and c.from_residual.result c.from_residual.ensures.1 in
    rw (p.1, p.2 ∙ told _ _ _ (sym c.ok_or.ensures.value ∙ c.in_err-at.was))
    (follows_missing _ _ _ _ _ _ _ c.look.ensures (c.ok_or.ensures.ok_part ∙ ap result_ok c.in_err-at.was))

pub returns-then-head_at-eq0 : goal.returns-then-head_at-eq0
returns-then-head_at-eq0 t c =
    follows_unmarked _ _ _ _ _ _ _ c.look.ensures _ (c.ok_or.ensures.ok_part ∙ ap result_ok c.in_ok-at.was) _
    c.head_at.ensures c.if-head_at-eq0.true

pub returns-then-is_empty : goal.returns-then-is_empty
returns-then-is_empty t c =
    follows_standing _ _ _ _ _ _ _ c.look.ensures _ (c.ok_or.ensures.ok_part ∙ ap result_ok c.in_ok-at.was) _
    c.head_at.ensures c.if-head_at-eq0.false (none_left _ _ c.is_empty.ensures c.in-len3-up.len_at_least c.if-is_empty.true)

pub returns : goal.returns
returns t c =
    follows_on _ _ _ _ _ _ _ c.look.ensures _ (c.ok_or.ensures.ok_part ∙ ap result_ok c.in_ok-at.was) _
    c.head_at.ensures c.if-head_at-eq0.false _ c.next_row-next.ensures
    c.follow_under.result c.follow_under.ensures (some_left _ _ c.is_empty.ensures c.if-is_empty.false)
