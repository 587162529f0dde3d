use Rattle.std.proofs.Common.{subst, sym, ◌∙◌}
use Rattle.std.proofs.lemmas.Option.{same_Some}
use Rattle.hd_pool.specs.Following.{Follows, IsFollowing}
use Rattle.hd_pool.proofs.side_pool.SidePool.bring_up.Goals as goal
use Rattle.hd_pool.proofs.side_pool.SidePool.bring_up.Goals.{in-Some, in-None+in_ok-pool-in-None}

pub refresh-refreshed-requires-clause-following : goal.refresh-refreshed-requires-clause-following
refresh-refreshed-requires-clause-following g c =
    let tiles = c.args.tiles.now in
    let m = g.G.Heights.map tiles.grid in
    let side = g.S.Side.NAME in
    let were : Follows m side tiles.tiling.side tiles.stamps.items (record { pool = c.self.inside.pool; outlay = c.self.inside.outlay }) = subst
    (Follows m side tiles.tiling.side tiles.stamps.items) (sym c.self.view_is) c.requires in
    elim c.match-take.branch [
      | in-Some w ↦ subst (IsFollowing m side tiles.tiling.side tiles.stamps.items) (sym w.pool-is) (were w.in-Some.pool (sym c.take.ensures.value ∙ w.in-Some.is))
      | in-None+in_ok-pool-in-None w ↦ subst (IsFollowing m side tiles.tiling.side tiles.stamps.items) (sym w.pool-is) w.in_ok-pool-in-None.ensures
    ]

pub returns-clause-follows : goal.returns-clause-follows
returns-clause-follows g c =
    let tiles = c.args.tiles.now in
    let m = g.G.Heights.map tiles.grid in
    let side = g.S.Side.NAME in
    λ pool is. subst (IsFollowing m side tiles.tiling.side tiles.stamps.items) (same_Some c.refresh-refreshed.new.pool pool is) c.refresh-refreshed.ensures.following
