-- `forecast::lost_at` meets its contract. Assumes nothing.
use mathlib.Core.Path.{sym, ◌∙◌}
use Rattle.forecast.proofs.Looks.{sight_none, sight_row, sight_block}
use Rattle.forecast.proofs.lost_at.Goals as goal

pub returns-in_default : goal.returns-in_default
returns-in_default c = sight_none _ _ _ _ _ c.args.o.now.deed _ c.in_default.is

pub returns-then-gives_plain : goal.returns-then-gives_plain
returns-then-gives_plain c =
    sight_row _ _ _ _ _ _ _ _ _ c.in-Some.is (sym c.gives_plain.ensures ∙ c.if-gives_plain.true) c.gone_row-g.ensures

pub returns : goal.returns
returns c =
    sight_block _ _ _ _ _ _ _ _ _ c.in-Some.is (sym c.gives_plain.ensures ∙ c.if-gives_plain.false) c.gone.ensures
