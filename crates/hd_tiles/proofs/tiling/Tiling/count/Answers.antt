use Rattle.std.proofs.Common.{arith}
use Rattle.hd_tiles.proofs.Corners.{tile_count-few}
use Rattle.hd_tiles.proofs.tiling.Tiling.count.Goals as goal

pub overflow_mul-result : goal.overflow_mul-result
overflow_mul-result c =
    let tiling = c.args.self in
    let few = tile_count-few tiling.size tiling.side tiling.tile_side.least tiling.limits in
    rw tiling.row (omega (arith, few))
