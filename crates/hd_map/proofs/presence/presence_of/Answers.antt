use Rattle.std.proofs.Common.{◌≡◌, ◌∙◌, ap, refl, arith}
use Rattle.hd_map.specs.Map.{InGrid, height_at, position_at}
use Rattle.hd_map.proofs.Presences.{presence_few, presence_more}
use Rattle.hd_map.proofs.PositionOrder.{at-first, at-next, at-inside, at-position}
use Rattle.hd_map.proofs.presence.presence_of.Goals as goal

pub points-init : goal.points-init
points-init g c = record {
  seen = record { count = refl; range = refl };
  few = omega arith;
  at = at-first (g.G.Heights.map c.args.grid.now).size _ refl refl (g.met.G.Heights.whole c.args.grid.now).size.some_points;
}

pub height-requires : goal.height-requires
height-requires g c =
    at-inside (g.G.Heights.map c.args.grid.now).size c.size-size.result c.points.counter c.points.at c.size-size.ensures c.points.invariant.at c.points-test.true

pub points-preserved : goal.points-preserved
points-preserved g c =
    let m = g.G.Heights.map c.args.grid.now in
    let n = c.points.counter in
    let at = c.points.at in
    let seen = c.points.seen in
    let next = c.seen_with-seen.result in
    let height = c.height.result in
    let so = c.points.invariant.at in
    let inside : InGrid m.size at = at-inside m.size c.size-size.result n at c.size-size.ensures so c.points-test.true in
    let here : height ≡ height_at m (position_at m.size n) = c.height.ensures ∙ ap (height_at m) (at-position m.size n at so inside) in
    record {
      seen = presence_more m n seen next height c.points.invariant.seen here c.seen_with-seen.ensures;
      few = presence_few n seen next height c.points.invariant.few c.seen_with-seen.ensures;
      at = at-next m.size c.size-size.result n at c.position_after-at.result c.size-size.ensures so c.position_after-at.ensures.column c.position_after-at.ensures.place;
    }
