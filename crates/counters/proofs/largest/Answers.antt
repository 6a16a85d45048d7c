use mathlib.Core.Path.{◌≡◌, ◌∙◌}
use Rattle.std.proofs.Common.{rules}
use Rattle.std.specs.Option.{option_map, unwrap_or}
use Rattle.std.proofs.lemmas.Iterator.{YieldsList-from_slice}
use Rattle.std.proofs.lemmas.Iterator.Consumers.{max_from_yields_List}
use Rattle.counters.proofs.Entries.{largest_max}
use Rattle.counters.proofs.largest.Goals as goal

pub returns : goal.returns
returns c =
    let s = c.args.s.at in
    let e : c.map_or.result ≡ unwrap_or (option_map (λ x. x.now) c.max.result) 0 = search rules in
    rw (max_from_yields_List _ c.max.result c.max.ensures.ran (YieldsList-from_slice s (cc))) at e ∙ largest_max s
