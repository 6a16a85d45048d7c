-- `forecast::weigh_way` meets its contract. The measure: the words that are left of the way. Assumes nothing.
use native.Mathlib.Omega.{arith}
use mathlib.Core.Path.{◌≡◌, ap, ◌∙◌}
use lib.ListN.{length-drop}
use Rattle.forecast.specs.Weighs.{weight_of}
use Rattle.forecast.proofs.Weights.{marked_places}
use Rattle.finder.proofs.Follows.{none_left, some_left}
use Rattle.forecast.proofs.Steps.{short_weighed, deep_weighed, last_weighed, part_weighed, PassesTo}
use Rattle.std.proofs.Common.{rules}
use Rattle.forecast.proofs.+weigh_way.Goals as goal

pub returns-in_default : goal.returns-in_default
returns-in_default t c = short_weighed _ _ _ _ _ _ _ _ _ _ c.in_default.len_below

pub returns-then-n-gt-DEEPEST : goal.returns-then-n-gt-DEEPEST
returns-then-n-gt-DEEPEST t c = deep_weighed _ _ _ _ _ _ _ _ _ _ c.if-n-gt-DEEPEST.true

pub returns-then-is_empty : goal.returns-then-is_empty
returns-then-is_empty t c =
    last_weighed _ _ _ _ _ _ _ _ _ _ (none_left _ _ c.is_empty.ensures c.in-len3-up.len_at_least c.if-is_empty.true) _
    c.weigh_last.ensures

pub carry-requires : goal.carry-requires
carry-requires t c =
    let e : (weight_of c.mark-u.result).places ≡ (weight_of c.weigh_way-under.result).places = ap (λ u. (weight_of u).places) c.mark-u.ensures ∙ marked_places _ _ in
    omega (arith, e, c.weigh_way-under.ensures.few_places, length-drop 3 c.args.way.now)

pub returns : goal.returns
returns t c =
    let p : PassesTo c.args.heads.now c.look-at.result c.map-next.result = search rules in
    part_weighed _ _ _ _ _ _ _ _ _ _ _ c.map-next.result _ _ _ _ _ c.in-len3-up.len_at_least
    (some_left _ _ c.is_empty.ensures c.if-is_empty.false) c.look-at.ensures p c.weigh_way-under.ensures
    c.mark-u.ensures c.is_some.ensures c.covered.ensures c.carry.ensures
