-- What the way's end says, at a row.
use mathlib.Core.Path.{refl, sym, ◌∙◌}
use Rattle.act.proofs.Giving.{finish_clear, finish-give}
use Rattle.act.proofs.finish.Goals as goal

pub returns-then-is_delete : goal.returns-then-is_delete
returns-then-is_delete c =
    finish_clear c.args.o _ _ _ _ _ _ _ _ _ _ (sym c.is_delete.ensures ∙ c.if-is_delete.true)
    c.clear_block-counts.ensures

pub returns : goal.returns
returns c =
    finish-give c.args.o _ _ _ _ _ _ _ _ _ _ _ _ (sym c.is_delete.ensures ∙ c.if-is_delete.false)
    refl c.give.ensures
