use Rattle.std.proofs.Common.{◌≡◌, ◌*◌, ℕ, ap}
use Rattle.hd_map.specs.Encoding.{values_of}
use Rattle.hd_tiles.proofs.Profiles.{AreStamped-ends}
use Rattle.hd_tiles.proofs.touch.touch_part.Goals as goal

pub returns-clause-stamped : goal.returns-clause-stamped
returns-clause-stamped g c =
    let tiling = c.args.tiling in
    let k = c.args.part in
    let from_is : k * c.side.result ≡ k * tiling.side = ap (λ (t : ℕ). k * t) c.side.ensures in
    AreStamped-ends (g.G.Heights.map c.args.grid.now) c.args.y (values_of g.L.Lane.code c.args.row.now) tiling.side tiling.size k
    (k * c.side.result) c.min-to.result c.in-Some.first c.last_change-last.result
    c.requires.same_size from_is (rw (c.size.ensures, c.side.ensures, c.side-2.ensures) at c.min-to.ensures) c.in-Some.ensures c.last_change-last.ensures
    c.args.stamp c.args.stamps.now.items c.touch_round.new.stamps.items c.touch_round-2.new.stamps.items c.touch_round.ensures c.touch_round-2.ensures
