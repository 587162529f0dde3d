use Rattle.std.proofs.Common.{ℕ, ◌<◌, ◌≤◌, ◌*◌, ◌/◌, ◌%◌, refl, arith}
use Rattle.std.proofs.lemmas.Nat.{mod_below}
use Rattle.hd_map.specs.declared.types.Size.{Size}
use Rattle.hd_tiles.specs.Tile.{tiles_across}
use Rattle.hd_basin.proofs.Frames.{some_across, part_start, column_start}
use Rattle.hd_basin.proofs.frame.area_of.Goals as goal

pub overflow_sub-size-2 : goal.overflow_sub-size-2
overflow_sub-size-2 c =
    let tiling = c.args.tiling in
    let t : ℕ = tiling.side in
    let least = tiling.tile_side.least in
    let some : 1 ≤ t = omega (arith, least) in
    let wide = some_across tiling.size t some tiling.limits.some_points in
    let start : c.args.tile / tiles_across tiling.size t * t < tiling.size.profiles = part_start c.args.tile (tiles_across tiling.size t) tiling.size.profiles t some wide c.requires in
    let up : c.args.tile / tiles_across tiling.size t * t ≤ tiling.size.profiles = omega (arith, start) in
    rw (c.across-across.ensures, c.side-side.ensures, c.size-size.ensures) up

pub returns : goal.returns
returns c =
    let tiling = c.args.tiling in
    let s : Size = tiling.size in
    let t : ℕ = tiling.side in
    let least = tiling.tile_side.least in
    let some : 1 ≤ t = omega (arith, least) in
    let wide = some_across s t some tiling.limits.some_points in
    record {
      left = rw (c.across-across.ensures, c.side-side.ensures) refl;
      columns = rw (c.min.ensures, c.side-side.ensures, c.size-size.ensures) refl;
      top = rw (c.across-across.ensures, c.side-side.ensures) refl;
      rows = rw (c.min-2.ensures, c.side-side.ensures, c.size-size.ensures) refl;
      some_columns = rw (c.across-across.ensures, c.side-side.ensures) (column_start (c.args.tile % tiles_across s t) s.points t some (mod_below c.args.tile (tiles_across s t) (omega (arith, wide))));
      some_rows = rw (c.across-across.ensures, c.side-side.ensures) (part_start c.args.tile (tiles_across s t) s.profiles t some wide c.requires);
    }
