use Rattle.std.proofs.Common.{sym}
use Rattle.hd_map.specs.Surface.{map_of}
use Rattle.hd_tiles.specs.Origin.{count-stays}
use Rattle.hd_pool.proofs.Following.{following-onward}
use Rattle.hd_tests.proofs.followed.Followed.set_mask.Goals as goal

pub returns : goal.returns
returns g c =
    let old = c.args.self.now.watched.tiles in
    let new = c.set_mask.new.self in
    let comes = c.set_mask.ensures.origin in
    let same = count-stays old.stamps.items new.stamps.items old.tiling.size new.tiling.size (map_of old.grid).size
    (map_of new.grid).size old.tiling.side new.tiling.side old.same_size new.same_size comes.size comes.same_side old.stamped new.stamped in
    following-onward (map_of old.grid) (map_of new.grid) g.S.Side.NAME old.tiling.side new.tiling.side old.stamps.items new.stamps.items c.args.self.now.pool
    (λ pool. c.pool_stays_in_step.ensures pool g.S.Side.NAME (map_of old.grid) (map_of new.grid) old.stamps.items new.stamps.items) (sym same) comes c.requires
