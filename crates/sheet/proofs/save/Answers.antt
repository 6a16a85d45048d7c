-- The counts have room, the sheet fits, it is written.
-- Assumes nothing.
use mathlib.Core.Path.{sym, ap, ◌∙◌}
use lib.ListN.{length}
use Rattle.tables.specs.Holding.{within_rows}
use Rattle.sheet.proofs.Saved.{too_many, too_short, written}
use Rattle.sheet.proofs.save.Goals as goal

pub sheet_of-sheet-requires : goal.sheet_of-sheet-requires
sheet_of-sheet-requires c = within_rows _ (sym c.within.ensures ∙ c.if-not-within.false)

pub returns-then-buf-needed : goal.returns-then-buf-needed
returns-then-buf-needed c =
    too_short _ _ _ _ (sym c.within.ensures ∙ c.if-not-within.false) c.size-needed.result
    (c.size-needed.ensures.size ∙ ap length c.sheet_of-sheet.ensures.text) c.if-buf-needed.true

pub returns : goal.returns
returns c =
    written _ _ _ _ (sym c.within.ensures ∙ c.if-not-within.false) c.put.result c.size-needed.result _
    (c.size-needed.ensures.size ∙ ap length c.sheet_of-sheet.ensures.text) c.if-buf-needed.false
    (rw c.sheet_of-sheet.ensures.text at c.put.ensures)

pub returns-then-not-within : goal.returns-then-not-within
returns-then-not-within c = too_many _ _ _ _ (sym c.within.ensures ∙ c.if-not-within.true)
