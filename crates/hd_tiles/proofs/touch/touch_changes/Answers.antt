use Rattle.std.proofs.Common.{◌<◌, ◌≤◌, ◌+◌, ◌*◌, arith}
use Rattle.std.proofs.Math.Nat.{mul-le-mul_left}
use Rattle.hd_map.specs.Encoding.{values_of}
use Rattle.hd_tiles.specs.Tile.{tiles_along}
use Rattle.hd_tiles.proofs.Profiles.{AreToldTo-none, AreToldTo-more, AreToldTo-all}
use Rattle.hd_tiles.proofs.touch.touch_changes.Goals as goal

pub loop-part-init : goal.loop-part-init
loop-part-init g c =
    AreToldTo-none (g.G.Heights.map c.args.grid.now) c.args.y (values_of g.L.Lane.code c.args.row.now) c.args.tiling.side c.args.tiling.size.points c.args.stamp c.args.stamps.now.items

pub loop-part-preserved : goal.loop-part-preserved
loop-part-preserved g c =
    let told = c.touch_part-some.ensures in
    let side = c.args.tiling.side in
    let k = c.loop-part.part in
    let sides = c.args.tiling.tile_side in
    let part : k + 1 ≤ tiles_along c.args.tiling.size.points side = omega (arith, c.across-part-end.ensures, c.loop-part-test.true) in
    let inside : k * side < c.args.tiling.size.points = omega (arith, sides.least, mul-le-mul_left side part) in
    AreToldTo-more (g.G.Heights.map c.args.grid.now) c.args.y (values_of g.L.Lane.code c.args.row.now) c.args.tiling.side c.args.tiling.size.points c.args.stamp c.args.stamps.now.items
    c.loop-part.part c.loop-part.some c.touch_part-some.result c.loop-part.stamps.items c.touch_part-some.new.stamps.items inside told.stamped told.some told.none c.loop-part.invariant

pub returns : goal.returns
returns g c =
    let sides = c.args.tiling.tile_side in
    let done : tiles_along c.args.tiling.size.points c.args.tiling.side ≤ c.loop-part.part = omega (arith, c.across-part-end.ensures, c.loop-part-test.false) in
    let all = AreToldTo-all (g.G.Heights.map c.args.grid.now) c.args.y (values_of g.L.Lane.code c.args.row.now) c.args.tiling.side c.args.tiling.size.points c.args.stamp c.args.stamps.now.items
    c.loop-part.part c.loop-part.some c.loop-part.stamps.items (omega (arith, sides.least)) done c.loop-part.invariant in
    record { stamped = all.0; some = all.1; none = all.2 }
