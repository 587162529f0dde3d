use Rattle.std.proofs.Common.{sym, ◌∙◌, ap}
use Rattle.hd_tiles.specs.declared.tiling.Tiling.{Tiling}
use Rattle.hd_pool.proofs.side_pool.new_pool.Goals as goal

pub returns : goal.returns
returns g c =
    let tiles = c.args.tiles.now in
    record {
      same_side = c.in_ok-pool.ensures.side ∙ c.side.ensures ∙ ap (λ (t : Tiling). t.side) c.tiling-tiling.ensures;
      in_step = c.in_ok-pool.ensures.in_step (g.G.Heights.map tiles.grid) tiles.stamps.items (sym tiles.same_size ∙ ap (λ (t : Tiling). t.size) (sym c.tiling-tiling.ensures) ∙ sym c.size.ensures);
    }
