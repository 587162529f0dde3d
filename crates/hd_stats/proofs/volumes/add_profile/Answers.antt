use Rattle.std.proofs.Common.{◌≡◌, ◌<◌, ◌+◌, ◌*◌, ◌∙◌, None, ap, arith, get_or, subst, sym}
use Rattle.hd_map.specs.declared.types.Pos.{Pos}
use Rattle.hd_map.specs.declared.types.Size.{Size}
use Rattle.hd_map.specs.Map.{InGrid, height_at, place_of}
use Rattle.hd_map.proofs.Points.{position_at-of}
use Rattle.hd_stats.proofs.AddedVolumes.{AreVolumes-more}
use Rattle.hd_stats.proofs.volumes.add_profile.Goals as goal

pub points-preserved : goal.points-preserved
points-preserved g c =
    let m = g.G.Heights.map c.args.grid.now in
    let at : Pos = record { x = c.points.x; y = c.args.y } in
    let n = place_of m.size at in
    let in_grid : InGrid m.size at = record { column = subst (λ (s : Size). c.points.x < s.points) c.size-size.ensures c.points-test.true; profile = c.requires.profile } in
    let place : c.index_of.result ≡ n = c.index_of.ensures.value ∙ ap (λ (s : Size). place_of s at) c.size-size.ensures in
    let next : c.args.y * m.size.points + (c.points.x + 1) ≡ n + 1 = omega arith in
    rw next (AreVolumes-more m c.args.kept.now c.args.reached.now n (get_or c.args.reached.now c.index_of.result None)
    (height_at m at) c.points.volumes.items c.add_point.new.volumes.items c.points.invariant
    (ap (λ k. get_or c.args.reached.now k None) place) (ap (height_at m) (sym (position_at-of m.size at in_grid))) c.add_point.ensures)
