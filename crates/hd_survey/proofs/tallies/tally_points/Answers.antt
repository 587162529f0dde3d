use Rattle.std.proofs.Common.{◌<◌, ◌+◌, ◌∙◌, ℕ, ap, arith, get_or, length, refl, subst, sym}
use Rattle.hd_map.specs.declared.types.Size.{Size}
use Rattle.hd_map.specs.Map.{InGrid, cell_count, position_at}
use Rattle.hd_survey.specs.Edges.{edge_height}
use Rattle.hd_survey.specs.Tallies.{AddsPoint, AreTallies}
use Rattle.hd_survey.proofs.Numbers.{number-none, number-some}
use Rattle.hd_survey.proofs.Tallying.{tallies_add, tallies_few, tallies_pass}
use Rattle.hd_map.proofs.PositionOrder.{IsAt, at-inside, at-next, at-position}
use Rattle.std.proofs.lemmas.Grind.{common_steps}
use Rattle.hd_survey.proofs.tallies.tally_points.Goals as goal
use Rattle.hd_survey.proofs.tallies.tally_points.Goals.{in-Some, in_default}

pub add_point-requires-clause-few : goal.add_point-requires-clause-few
add_point-requires-clause-few g c = λ k d below.
    let m = g.G.Heights.map c.args.grid.now in
    let few = tallies_few m c.args.regions.now c.points.index c.points.tallies.items c.points.invariant.tallies k d below in
    let most = (g.met.G.Heights.whole c.args.grid.now).size.cells in
    let inside : c.points.index < length c.args.regions.now.numbers = omega arith in
    omega (arith, few, most, c.requires.whole, inside)

pub points-preserved : goal.points-preserved
points-preserved g c =
    let m = g.G.Heights.map c.args.grid.now in
    let regions = c.args.regions.now in
    let k = c.points.index in
    let n : ℕ = get_or regions.numbers k 0 in
    let at = c.points.at in
    let so = c.points.invariant.at in
    let below : k < cell_count m.size = subst (λ n. k < n) c.requires.whole (let inside : k < length regions.numbers = omega arith in inside) in
    let inside : InGrid m.size at = at-inside m.size m.size k at refl so below in
    let here = ap (edge_height m) (at-position m.size k at so inside) in
    let next = at-next m.size c.size-size.result k at c.position_after-at.result c.size-size.ensures so c.position_after-at.ensures.column c.position_after-at.ensures.place in
    elim c.match-number.branch [
      | in-Some w ↦
          let read = number-some regions.pits n w.in-Some.number (sym c.number.ensures ∙ w.in-Some.is) in
          record {
            tallies = subst (λ v. AreTallies m regions (k + 1) v.items) (sym w.tallies-is)
                (tallies_add m regions k c.points.tallies.items w.add_point.new.tallies.items
                (subst (λ i. AddsPoint c.points.tallies.items i (edge_height m (position_at m.size k)) w.add_point.new.tallies.items) (sym read.0)
                (subst (λ h. AddsPoint c.points.tallies.items w.in-Some.number h w.add_point.new.tallies.items) (w.edge_height-height.ensures ∙ here) w.add_point.ensures)) c.points.invariant.tallies);
            at = next;
          }
      | in_default w ↦ record {
        tallies = subst (λ v. AreTallies m regions (k + 1) v.items) (sym w.tallies-is)
            (tallies_pass m regions k c.points.tallies.items (number-none regions.pits n (sym c.number.ensures ∙ w.in_default.is)) c.points.invariant.tallies);
        at = next;
      }
    ]

pub edge_height-height-requires-clause-inside : goal.edge_height-height-requires-clause-inside
edge_height-height-requires-clause-inside g c =
    let m = g.G.Heights.map c.args.grid.now in
    let below : c.points.index < length c.args.regions.now.numbers = omega arith in
    at-inside m.size m.size c.points.index c.points.at refl c.points.invariant.at (subst (λ n. c.points.index < n) c.requires.whole below)

pub position_after-at-requires-clause-in_grid : goal.position_after-at-requires-clause-in_grid
position_after-at-requires-clause-in_grid g c =
    let m = g.G.Heights.map c.args.grid.now in
    let below : c.points.index < length c.args.regions.now.numbers = omega arith in
    at-inside c.size-size.result m.size c.points.index c.points.at (sym c.size-size.ensures)
    (subst (λ (s : Size). IsAt s c.points.index c.points.at) (sym c.size-size.ensures) c.points.invariant.at) (subst (λ n. c.points.index < n) c.requires.whole below)

pub add_point-requires-clause-inside : goal.add_point-requires-clause-inside
add_point-requires-clause-inside g c =
    let read = number-some c.args.regions.now.pits (get_or c.args.regions.now.numbers c.points.index 0) c.in-Some.number (sym c.number.ensures ∙ c.in-Some.is) in
    omega (arith, read.1, c.points.invariant.tallies.whole)

pub points-init : goal.points-init
points-init g c = grind (arith, common_steps)
