-- `forecast::weigh_place` meets its contract. Assumes nothing.
use Rattle.forecast.proofs.Weights.{place_weighed}
use Rattle.forecast.proofs.weigh_place.Goals as goal

pub returns : goal.returns
returns c = place_weighed _ _ _ _ _ _ _ _ _ c.lost_at-g.ensures c.put.ensures
