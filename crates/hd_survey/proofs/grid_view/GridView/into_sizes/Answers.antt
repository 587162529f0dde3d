use Rattle.std.proofs.Common.{subst, arith}
use Rattle.std.proofs.lemmas.Result.{IfOk-weaker}
use Rattle.hd_steep.proofs.Numbered.{numbers_whole}
use Rattle.hd_survey.specs.Regions.{AreSizesByRoots}
use Rattle.hd_survey.proofs.RegionSizes.{sizes_numbered}
use Rattle.hd_survey.proofs.grid_view.GridView.into_sizes.Goals as goal

pub into_sizes-requires-clause-few : goal.into_sizes-requires-clause-few
into_sizes-requires-clause-few g c =
    let m = g.G.Heights.map c.self.inside.grid.now in
    let long = numbers_whole m g.S.Side.NAME c.self.inside.regions c.self.invariant in
    let most = (g.met.G.Heights.whole c.self.inside.grid.now).size.cells in
    omega (arith, long, most)

pub returns : goal.returns
returns g c =
    let m = g.G.Heights.map c.self.inside.grid.now in
    let side = g.S.Side.NAME in
    IfOk-weaker c.into_sizes.result _ _
    (λ list are. subst (λ grid. AreSizesByRoots (g.G.Heights.map grid) side list) c.self.view_is
    (sizes_numbered m side c.self.inside.regions list (g.met.G.Heights.whole c.self.inside.grid.now) c.self.invariant are))
    c.into_sizes.ensures
