use Rattle.std.proofs.Common.{◌≡◌, ◌<◌, ◌+◌, ◌*◌, arith, subst}
use Rattle.hd_map.specs.declared.types.Pos.{Pos}
use Rattle.hd_map.specs.declared.types.Size.{Size}
use Rattle.hd_map.specs.Map.{InGrid, place_of}
use Rattle.hd_map.specs.Presence.{heights_below}
use Rattle.hd_map.proofs.Points.{place_inside}
use Rattle.hd_map.proofs.Presences.{heights_below-few}
use Rattle.hd_stats.proofs.Gathering.{heights_below-read}
use Rattle.hd_stats.proofs.gather.with_profile.Goals as goal

pub with-sum-requires : goal.with-sum-requires
with-sum-requires g c =
    let m = g.G.Heights.map c.args.grid.now in
    let at : Pos = record { x = c.points.x; y = c.args.y } in
    let in_grid : InGrid m.size at = record { column = subst (λ (s : Size). c.points.x < s.points) c.size-x-end.ensures c.points-test.true; profile = c.requires.profile } in
    let inside = place_inside m.size at in_grid in
    let few = heights_below-few m (place_of m.size at) in
    let whole = (g.met.G.Heights.whole c.args.grid.now).size.cells in
    (heights_below m (place_of m.size at), c.points.invariant, omega (arith, inside, few, whole))

pub points-preserved : goal.points-preserved
points-preserved g c =
    let m = g.G.Heights.map c.args.grid.now in
    let at : Pos = record { x = c.points.x; y = c.args.y } in
    let in_grid : InGrid m.size at = record { column = subst (λ (s : Size). c.points.x < s.points) c.size-x-end.ensures c.points-test.true; profile = c.requires.profile } in
    let next : c.args.y * m.size.points + (c.points.x + 1) ≡ place_of m.size at + 1 = omega arith in
    rw (next, heights_below-read m at c.height.result in_grid c.height.ensures) (c.with-sum.ensures (heights_below m (place_of m.size at)) c.points.invariant)
