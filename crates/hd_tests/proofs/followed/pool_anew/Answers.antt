use Rattle.std.proofs.Common.{◌≡◌, sym, ◌∙◌, ap}
use Rattle.hd_map.specs.Surface.{map_of}
use Rattle.hd_tiles.specs.declared.tiling.Tiling.{Tiling}
use Rattle.hd_tests.proofs.followed.pool_anew.Goals as goal

pub bring_up-requires-clause-following : goal.bring_up-requires-clause-following
bring_up-requires-clause-following g c =
    let tiles = c.args.watched.now.tiles in
    let pool = c.expect-pool.result in
    let side : pool.side ≡ c.side.result = rw c.expect-pool.ensures at c.new.ensures.side in
    let in_step = rw c.expect-pool.ensures at c.new.ensures.in_step in
    record {
      same_side = side ∙ c.side.ensures ∙ ap (λ (t : Tiling). t.side) c.tiling-tiling.ensures;
      in_step = in_step (map_of tiles.grid) tiles.stamps.items (sym tiles.same_size ∙ ap (λ (t : Tiling). t.size) (sym c.tiling-tiling.ensures) ∙ sym c.size.ensures);
    }
