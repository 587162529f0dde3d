use Rattle.std.proofs.Common.{ℕ, ◌≤◌, ◌%◌, arith}
use Rattle.std.proofs.lemmas.Nat.{mod_below}
use Rattle.hd_map.specs.declared.types.Size.{Size}
use Rattle.hd_tiles.specs.Tile.{tiles_across}
use Rattle.hd_basin.specs.declared.frame.Frame.{Frame}
use Rattle.hd_basin.proofs.Frames.{some_across, part_start, column_start, frame_holds, frame_only}
use Rattle.hd_basin.proofs.frame.frame_of.Goals as goal

pub stretch_of-y-requires-clause-some : goal.stretch_of-y-requires-clause-some
stretch_of-y-requires-clause-some c =
    let tiling = c.args.tiling in
    let least = tiling.tile_side.least in
    let some : 1 ≤ tiling.side = omega (arith, least) in
    let wide = some_across tiling.size tiling.side some tiling.limits.some_points in
    rw (c.across-across.ensures, c.side-2.ensures, c.size-size.ensures) (part_start c.args.tile (tiles_across tiling.size tiling.side) tiling.size.profiles tiling.side some wide c.requires)

pub returns-clause-holds : goal.returns-clause-holds
returns-clause-holds c =
    let tiling = c.args.tiling in
    let least = tiling.tile_side.least in
    let x = c.stretch_of-x in
    let y = c.stretch_of-y in
    let f : Frame = record { left = x.result.from; top = y.result.from; columns = x.result.count; rows = y.result.count } in
    frame_holds tiling.size tiling.side c.args.tile f (omega (arith, least))
    (rw c.size-size.ensures at x.ensures.fits) (rw (c.side.ensures, c.across-across.ensures) at x.ensures.from) (rw (c.size-size.ensures, c.side.ensures, c.across-across.ensures) at x.ensures.after)
    (rw c.size-size.ensures at y.ensures.fits) (rw (c.side-2.ensures, c.across-across.ensures) at y.ensures.from)
    (rw (c.size-size.ensures, c.side-2.ensures, c.across-across.ensures) at y.ensures.after)

pub returns-clause-only : goal.returns-clause-only
returns-clause-only c =
    let tiling = c.args.tiling in
    let s : Size = tiling.size in
    let t : ℕ = tiling.side in
    let least = tiling.tile_side.least in
    let some : 1 ≤ t = omega (arith, least) in
    let wide = some_across s t some tiling.limits.some_points in
    let x = c.stretch_of-x in
    let y = c.stretch_of-y in
    let f : Frame = record { left = x.result.from; top = y.result.from; columns = x.result.count; rows = y.result.count } in
    frame_only s t c.args.tile f some wide (column_start (c.args.tile % tiles_across s t) s.points t some (mod_below c.args.tile (tiles_across s t) (omega (arith, wide))))
    (part_start c.args.tile (tiles_across s t) s.profiles t some wide c.requires)
    (rw (c.side.ensures, c.across-across.ensures) at x.ensures.from) (rw c.size-size.ensures at x.ensures.fits) (rw (c.side.ensures, c.across-across.ensures) at x.ensures.within)
    (rw (c.side-2.ensures, c.across-across.ensures) at y.ensures.from) (rw c.size-size.ensures at y.ensures.fits) (rw (c.side-2.ensures, c.across-across.ensures) at y.ensures.within)
