use Rattle.std.proofs.Common.{◌*◌, ◌∙◌, arith}
use Rattle.hd_map.specs.Encoding.{values_of}
use Rattle.hd_morph.proofs.Encodings.{values_of-length, values_of-mid, values_of-part}
use Rattle.hd_morph.proofs.RoundGreatests.{RowsDone-none, RowsDone-more, AreRowGreatests-all}
use Rattle.hd_morph.proofs.round.spread_rows.Goals as goal

pub loop-y-init : goal.loop-y-init
loop-y-init g c = RowsDone-none c.args.size c.args.reach (values_of g.L.Lane.code c.args.tops.now)

pub loop-y-preserved : goal.loop-y-preserved
loop-y-preserved g c =
    let code = g.L.Lane.code in
    let near = rw (values_of-part code (c.loop-y.y * c.args.size.points) _ c.loop-y.tops) at c.spread_near.ensures in
    rw (values_of-mid code (c.loop-y.y * c.args.size.points) _ c.loop-y.tops c.spread_near.new.tops)
    (RowsDone-more c.args.size c.args.reach c.loop-y.y _ (values_of code c.args.tops.now) (values_of code c.loop-y.tops) (values_of code c.spread_near.new.tops) c.loop-y-test.true
    (values_of-length code c.args.tops.now ∙ c.requires.whole) (omega arith) c.loop-y.invariant near)

pub returns : goal.returns
returns g c = AreRowGreatests-all c.args.size c.args.reach c.loop-y.y (values_of g.L.Lane.code c.args.tops.now) (values_of g.L.Lane.code c.loop-y.tops) (omega arith) c.loop-y.invariant
