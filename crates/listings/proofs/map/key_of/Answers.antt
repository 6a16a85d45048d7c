use Rattle.listings.proofs.Mapped.{key_here, nothing_here}
use mathlib.Core.Path.{◌∙◌}
use Rattle.listings.proofs.map.key_of.Goals as goal

pub returns-then-not-is_listed-clause-text : goal.returns-then-not-is_listed-clause-text
returns-then-not-is_listed-clause-text c =
    nothing_here c.args.h c.args.keys.now c.args.depth c.args.row c.is_listed.ensures c.if-not-is_listed.true

pub returns-clause-text : goal.returns-clause-text
returns-clause-text c =
    c.key_row.ensures.text ∙ key_here c.args.h c.args.keys.now c.args.depth c.args.row c.is_listed.ensures c.if-not-is_listed.false
    c.key_at-k.ensures c.short_of.ensures.0
