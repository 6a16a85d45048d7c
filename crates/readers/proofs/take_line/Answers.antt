-- `readers::take_line` meets its contract.
-- Assumes nothing.
use mathlib.Core.Path.{ap, ◌∙◌}
use lib.ListN.{length}
use Rattle.std.specs.Option.{unwrap_or}
use Rattle.readers.proofs.Lines.{found, line_at}
use Rattle.readers.proofs.take_line.Goals as goal

pub returns : goal.returns
returns c =
    line_at _ _ _ _ c.rest-rest.ensures
    (c.unwrap_or.ensures ∙ (ap (λ o. unwrap_or o (length c.rest-rest.result.now)) c.line_feed.ensures ∙ found c.rest-rest.result.now))
