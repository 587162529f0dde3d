use Rattle.std.proofs.Common.{◌≡◌, sym, ◌∙◌, ap}
use Rattle.hd_map.specs.declared.surface.Surface.{Surface}
use Rattle.hd_map.specs.Surface.{map_of}
use Rattle.hd_tests.proofs.followed.Followed.new.Goals as goal

pub returns : goal.returns
returns g c =
    let tiles = c.expect-tiles.result in
    let pool = c.expect-pool.result in
    let same : tiles.grid ≡ c.args.surface = rw c.expect-tiles.ensures at c.from_surface.ensures.surface in
    let side : tiles.tiling.side ≡ c.args.side = rw c.expect-tiles.ensures at c.from_surface.ensures.side in
    let pool_side : pool.side ≡ c.args.side = rw c.expect-pool.ensures at c.new.ensures.side in
    let in_step = rw c.expect-pool.ensures at c.new.ensures.in_step in
    record {
      same_side = pool_side ∙ sym side;
      in_step = in_step (map_of tiles.grid) tiles.stamps.items (ap (λ (s : Surface). (map_of s).size) same ∙ sym c.size-size.ensures);
    }
