use Rattle.std.proofs.Common.{◌-◌, length, arith}
use Rattle.hd_steep.proofs.KeyRows.{keys_turned, written_plain}
use Rattle.hd_steep.proofs.row.fill_keys.Goals as goal

pub turn_to_side-requires : goal.turn_to_side-requires
turn_to_side-requires g c =
    let framed = c.requires.framed in
    written_plain g.L.Lane.code (g.G.Heights.map c.args.grid.now) c.args.y (length c.args.keys.now - 1 - 1) c.args.keys.now c.fill_heights.new.row framed
    (let w = framed.whole in omega (arith, w)) c.if-not-fill_heights.ensures.row

pub returns-clause-keys : goal.returns-clause-keys
returns-clause-keys g c =
    let framed = c.requires.framed in
    keys_turned g.L.Lane.code (g.G.Heights.map c.args.grid.now) c.args.y (length c.args.keys.now - 1 - 1) c.args.keys.now c.fill_heights.new.row framed
    (let w = framed.whole in omega (arith, w)) c.if-not-fill_heights.ensures.row g.S.Side.NAME c.turn_to_side.new.keys (g.met.G.Heights.whole c.args.grid.now) c.turn_to_side.ensures
