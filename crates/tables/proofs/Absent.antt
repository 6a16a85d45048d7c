-- What stands where an Option is asked for a value that it hasn't.
-- Assumes nothing.
use mathlib.Core.Path.{◌≡◌}
use Rattle.std.specs.Prelude.{Option, Some, None, Err, ok_or}

-- the error is the one that was given
pub told : {A E : Type 0} (x : Option A) (f y : E) → ok_or x f ≡ Err y → y ≡ f
told None f y e = cc
told (Some a) f y e = cc
