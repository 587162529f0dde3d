use Rattle.std.proofs.Common.{◌<◌, length, arith}
use Rattle.hd_steep.proofs.Keys.{negated_all, negated_more, negated_none, next_plain}
use Rattle.hd_steep.proofs.row.negate.Goals as goal

pub loop-x-init : goal.loop-x-init
loop-x-init g c = negated_none g.L.Lane.code c.args.keys.now

pub loop-x-preserved : goal.loop-x-preserved
loop-x-preserved g c =
    let before = c.loop-x.invariant in
    let inside : c.loop-x.x < length c.loop-x.keys = let w = before.whole in omega (arith, w) in
    negated_more g.L.Lane.code c.args.keys.now c.loop-x.keys c.loop-x.x c.requires before c.index-keys-x.result inside c.index-keys-x.is c.negated.result c.negated.ensures

pub negated-requires : goal.negated-requires
negated-requires g c =
    let before = c.loop-x.invariant in
    let inside : c.loop-x.x < length c.loop-x.keys = let w = before.whole in omega (arith, w) in
    (next_plain g.L.Lane.code c.args.keys.now c.loop-x.keys c.loop-x.x c.requires before c.index-keys-x.result inside c.index-keys-x.is).bounded

pub returns : goal.returns
returns g c = let w = c.loop-x.invariant.whole in negated_all g.L.Lane.code c.args.keys.now c.loop-x.keys c.loop-x.x c.requires c.loop-x.invariant (omega (arith, w))
