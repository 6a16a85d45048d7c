-- `waiting::early` meets its contract: its own entry tells, or all eight. Assumes nothing.
use mathlib.Core.Path.{refl}
use native.Mathlib.Omega.{arith}
use Rattle.waiting.specs.Waits.{TellsEarly}
use Rattle.waiting.proofs.Holds.{table_long, among}
use Rattle.waiting.proofs.Told.{early-dead, early-ahead, early_even}
use Rattle.waiting.proofs.early.Goals as goal

pub returns-then-t-lt-WAITING : goal.returns-then-t-lt-WAITING
unfolding TellsEarly
returns-then-t-lt-WAITING c =
    λ A R o W e. absurd (omega (arith, table_long _ _ _ W, W.fit, among _ _ _ A R o W e))

pub returns-then-last-entry : goal.returns-then-last-entry
returns-then-last-entry c =
    early-ahead _ _ _ _ _ _ c.from-last.ensures refl c.if-last-entry.true

pub returns : goal.returns
returns c =
    early_even _ _ _ _ _ _ c.from-last.ensures refl c.if-entry-last.false c.if-last-entry.false _ c.counters_at-deps.ensures _
    c.at_most-ready.ensures

pub returns-then-entry-last : goal.returns-then-entry-last
returns-then-entry-last c = early-dead _ _ _ _ _ _ c.from-last.ensures refl c.if-entry-last.true
