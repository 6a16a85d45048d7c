-- The row of a key of the way.
use Rattle.descend.proofs.Leading.{lead_by}
use Rattle.descend.proofs.reach.Goals as goal

pub returns : goal.returns
returns c = λ m v.
    lead_by _ _ _ _ _ _ _ _ c.lead.result c.search_of-w.ensures c.may_make-make.ensures
    (c.lead.ensures m v)
