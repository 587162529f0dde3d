use Rattle.std.proofs.Common.{◌<◌, ◌*◌, ◌+◌, arith}
use Rattle.hd_tiles.specs.Tile.{tile_count}
use Rattle.hd_tiles.proofs.Corners.{tile_of-inside, tile_count-few}
use Rattle.hd_tiles.proofs.tiling.Tiling.tile_of.Goals as goal

pub returns-clause-tile : goal.returns-clause-tile
returns-clause-tile c =
    let tiling = c.args.self in
    let side = tiling.tile_side.least in
    rw (c.part_of.ensures, c.part_of-2.ensures, tiling.row) (tile_of-inside tiling.size tiling.side c.args.at (omega (arith, side)) c.requires)

pub overflow_add-result : goal.overflow_add-result
overflow_add-result c =
    let tiling = c.args.self in
    let side = tiling.tile_side.least in
    let below : c.part_of.result * tiling.across + c.part_of-2.result < tile_count tiling.size tiling.side = rw (c.part_of.ensures, c.part_of-2.ensures, tiling.row)
    (tile_of-inside tiling.size tiling.side c.args.at (omega (arith, side)) c.requires) in
    let few = tile_count-few tiling.size tiling.side side tiling.limits in
    omega (arith, below, few)
