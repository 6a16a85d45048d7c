-- `waiting::row::write_row` meets its contract: the parts of the row, one behind another. Assumes nothing.
use mathlib.Core.Path.{◌≡◌, sym, ◌∙◌}
use native.Mathlib.Omega.{arith}
use lib.ListN.{length}
use lib.Seq.{ext_get_or}
use borrow.Author.Rules.{rules}
use Rattle.waiting.proofs.Written.{written}
use Rattle.waiting.proofs.row.write_row.Goals as goal

pub returns : goal.returns
returns c =
    let deps : length c.args.op.act.deps.at ≡ 8 = search rules in
    let keys : length c.args.op.way.keys ≡ 24 = search rules in
    let same : c.map-deps.result ≡ c.args.op.act.deps.at =
    ext_get_or 0 c.map-deps.result c.args.op.act.deps.at (c.map-deps.ensures.items.long ∙ sym deps)
    (λ i h. let k = c.map-deps.ensures.items.at i 0 0 (omega (arith, h, c.map-deps.ensures.items.long)) in search (rules, k.2)) in
    let d = rw same at c.lay.ensures in
    let n = rw c.from-done.ensures at c.lay-3.ensures in
    let v = rw c.from-done.ensures at c.lay-4.ensures in
    written _ _ _ _ _ _ _ _ _ _ _ _ _ deps keys c.requires d c.lay-2.ensures n v
