use Rattle.std.proofs.Common.{length, arith}
use Rattle.hd_steep.specs.Lowest.{earlier_below}
use Rattle.hd_steep.proofs.LowerPlaces.{tested_more, wide_at}
use Rattle.hd_steep.proofs.lower_places.tell_earlier.Goals as goal

pub is_below_later-requires-clause-key : goal.is_below_later-requires-clause-key
is_below_later-requires-clause-key g c =
    (wide_at g.L.Lane.code (length c.args.lower.now) c.args.shift c.args.keys.now c.requires.keys c.requires.shift c.loop-x.x c.index-others-x.result c.loop-x-test.true c.index-others-x.is).1

pub is_below_later-requires-clause-later : goal.is_below_later-requires-clause-later
is_below_later-requires-clause-later g c = (wide_at g.L.Lane.code (length c.args.lower.now) 1 c.args.level.now c.requires.level
    (omega arith) c.loop-x.x c.index-owns-x.result c.loop-x-test.true c.index-owns-x.is).1

pub loop-x-preserved : goal.loop-x-preserved
loop-x-preserved g c =
    let code = g.L.Lane.code in
    let side = g.S.Side.NAME in
    let columns = length c.args.lower.now in
    let x = c.loop-x.x in
    let key = wide_at code columns c.args.shift c.args.keys.now c.requires.keys c.requires.shift x c.index-others-x.result c.loop-x-test.true c.index-others-x.is in
    let own = wide_at code columns 1 c.args.level.now c.requires.level (omega arith) x c.index-owns-x.result c.loop-x-test.true c.index-owns-x.is in
    tested_more code side (earlier_below side) c.args.keys.now c.args.shift c.args.level.now c.loop-x.lower x c.index-others-x.result c.index-owns-x.result c.is_below_later.result
    (omega arith) key.0 own.0 c.is_below_later.ensures
    c.loop-x.invariant
