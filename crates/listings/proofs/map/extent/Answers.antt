use Rattle.listings.proofs.Mapped.{going_none, going_on, going_stop, going_all}
use Rattle.listings.proofs.map.extent.Goals as goal

pub loop-i-init : goal.loop-i-init
loop-i-init c = going_none c.args.heads.now c.args.keys.now c.args.depth c.args.rows c.args.from c.requires.0

pub returns-then-not-of_map : goal.returns-then-not-of_map
returns-then-not-of_map c =
    going_stop c.args.heads.now c.args.keys.now c.args.depth c.loop-i.invariant c.loop-i-test.true c.head_at-h.ensures c.of_map.ensures
    c.if-not-of_map.true

pub loop-i-preserved : goal.loop-i-preserved
loop-i-preserved c =
    going_on c.args.heads.now c.args.keys.now c.args.depth c.loop-i.invariant c.loop-i-test.true c.head_at-h.ensures c.of_map.ensures
    c.if-not-of_map.false (rw c.key_of.ensures.text at c.size-size.ensures) c.key_of.ensures.most

pub returns : goal.returns
returns c = going_all c.args.heads.now c.args.keys.now c.args.depth c.loop-i.invariant c.loop-i-test.false
