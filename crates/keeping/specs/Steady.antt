-- A terminal that is kept in memory is steady: what is proved of every terminal's document and waiting operations holds of it.
-- Assumes nothing.
use Rattle.std.proofs.Common.{arith}
use Rattle.meaning.specs.Receive.{Terminal}
use Rattle.theorems.specs.Invariant.{Steady}
use Rattle.keeping.specs.Keeping.{Keeps}
use Rattle.keeping.specs.declared.Memory.{Memory}

pub keeps_steady : (M : Memory) (X : Terminal) → Keeps M X → Steady X
keeps_steady M X K = record {
  sound = K.document.sound;
  room = K.document.limits;
  ascends = K.waiting.ascending;
  sent = K.sent;
  few = omega (arith, K.waiting.count, K.waiting.fit);
}
