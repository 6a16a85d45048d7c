-- `waiting::row::counters_at` meets its contract: each counter is 32 bits of a word. Assumes nothing.
use Rattle.std.proofs.Common.{rules}
use Rattle.waiting.proofs.Copies.{counters_from}
use Rattle.waiting.proofs.row.counters_at.Goals as goal

pub returns : goal.returns
returns c =
    counters_from c.args.from c.args.t.now c.from_fn.result c.requires c.from_fn.ensures.items.long
    (λ i h. let k = c.from_fn.ensures.items.at i 0 h in search (rules, k.2))
