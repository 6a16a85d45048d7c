-- The stop of the top place.
use Rattle.judging.proofs.Tops.{tops}
use Rattle.judging.proofs.top_of.Goals as goal

pub returns : goal.returns
returns c = tops _ _ _ _ _ _ c.search_of-w.ensures c.find.ensures
