-- The row that a search leads to.
use Rattle.descend.proofs.Leading.{lead_row, lead_new, lead_none}
use Rattle.descend.proofs.lead.Goals as goal

pub returns-then-is_at : goal.returns-then-is_at
returns-then-is_at c = λ m v. lead_row _ _ m v _ _ _ _ c.find-at.ensures _ _ c.is_at.ensures c.if-is_at.true

pub returns-then-not-make : goal.returns-then-not-make
returns-then-not-make c = λ m v.
    lead_none _ _ m v _ _ _ _ c.find-at.ensures _ _ c.is_at.ensures c.if-is_at.false c.if-not-make.true

pub returns : goal.returns
returns c = λ m v.
    lead_new _ _ m v _ _ _ _ c.find-at.ensures _ _ _ _ _ c.is_at.ensures c.if-is_at.false c.if-not-make.false
    c.open_row-counts.ensures
