-- `replay::read_on` meets its contract: the bytes that come stand behind those that are held. Assumes nothing.
use native.Mathlib.Omega.{arith}
use Rattle.replay.proofs.read_on.Goals as goal

pub returns : goal.returns
returns c =
    record {
      low = omega (arith, c.make_room-held.ensures.holds.low);
      high = omega (arith, c.make_room-held.ensures.holds.high, c.read_full-n.ensures);
      begun = λ e. omega (arith, c.make_room-held.ensures.holds.begun e);
    }
