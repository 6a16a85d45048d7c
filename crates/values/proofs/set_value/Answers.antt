-- `values::set_value` meets its contract. Assumes nothing.
use Rattle.values.proofs.Set.{sets_one, sets_many}
use Rattle.values.proofs.set_value.Goals as goal

pub returns-then-has_one : goal.returns-then-has_one
returns-then-has_one c =
    sets_one _ _ _ _ _ _ _ _ _ (c.has_one.ensures c.if-has_one.true) c.write_value.ensures

pub returns : goal.returns
returns c =
    sets_many _ _ _ _ _ _ _ _ _ _ _ _ _ c.drop_values-left.ensures
    c.add_value.ensures
