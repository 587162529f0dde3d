use Rattle.std.proofs.Common.{subst, sym}
use Rattle.hd_pool.specs.Following.{Follows}
use Rattle.hd_engine.proofs.labels.root_by_map.Goals as goal

pub returns-clause-follows : goal.returns-clause-follows
returns-clause-follows g c =
    let tiles = c.args.tiles.now in
    subst (Follows (g.G.Heights.map tiles.grid) g.S.Side.NAME tiles.tiling.side tiles.stamps.items) (sym c.count_label.ensures) c.requires.follows
