use Rattle.std.proofs.Common.{◌≡◌, ◌∙◌, List, map, subst, ap}
use Rattle.std.proofs.lemmas.Result.{IfOk-weaker}
use Rattle.hd_map.specs.declared.types.Rank.{Rank}
use Rattle.hd_map.proofs.Prunings.{pits-unique}
use Rattle.hd_steep.specs.Numbering.{roots_of}
use Rattle.hd_survey.specs.Regions.{pit_ranks}
use Rattle.hd_survey.specs.Tallies.{AreRegionTallies, region_tally}
use Rattle.hd_survey.proofs.MapPits.{ranks_pits}
use Rattle.hd_survey.proofs.grid_view.GridViewSideView.tallies.Goals as goal

pub returns : goal.returns
returns g c =
    let m = g.G.Heights.map c.self.inside.grid.now in
    let side = g.S.Side.NAME in
    let regions = c.self.inside.regions in
    let pits : regions.pits ≡ pit_ranks m (roots_of regions) =
    pits-unique m side regions.pits (pit_ranks m (roots_of regions)) c.self.invariant.pits
    (ranks_pits m side (roots_of regions) (g.met.G.Heights.whole c.self.inside.grid.now) c.self.invariant.roots) in
    IfOk-weaker c.region_tallies.result _ _
    (λ list are. subst (λ grid. AreRegionTallies (g.G.Heights.map grid) side list) c.self.view_is
    (record { roots = roots_of regions; regions = c.self.invariant.roots; are = are ∙ ap (λ (ps : List Rank). map (region_tally m (roots_of regions)) ps) pits }))
    c.region_tallies.ensures
