-- Where a search stops in tables that hold rows.
use mathlib.Core.Path.{◌∙◌}
use Rattle.tables.specs.Stands.{may_search, search_stops}
use Rattle.tables.proofs.find.Goals as goal

pub returns-then-may_begin : goal.returns-then-may_begin
returns-then-may_begin c = λ m v e A B pass H q b g. c.seek.ensures ∙ search_stops _ _ m v e A B H _ pass _ _ q b g

pub returns-else-may_begin : goal.returns-else-may_begin
returns-else-may_begin c = λ m v e A B pass H q b g. absurd ((rw c.if-may_begin.false at c.may_begin.ensures) (may_search _ _ m v e A B H _ _ q b))

pub seek-requires : goal.seek-requires
seek-requires c = rw c.if-may_begin.true at c.may_begin.ensures
