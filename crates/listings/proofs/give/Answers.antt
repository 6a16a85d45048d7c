use native.Mathlib.Omega.{arith}
use Rattle.listings.proofs.Answered.{too_short, written}
use Rattle.listings.proofs.give.Goals as goal

pub returns : goal.returns
returns g c = written _ _ (omega (arith, c.if-buf-needed.false, c.size-needed.ensures.size)) c.put.ensures

pub returns-then-buf-needed : goal.returns-then-buf-needed
returns-then-buf-needed g c = too_short _ _ c.size-needed.ensures.size c.if-buf-needed.true
