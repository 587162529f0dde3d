use Rattle.std.proofs.Common.{◌^◌, ◌<◌, ◌∙◌, List, ap, map, subst, sym}
use Rattle.std.specs.Prelude.{All}
use Rattle.std.proofs.lemmas.Result.{IfOk-weaker}
use Rattle.hd_basin.specs.declared.extent.Extent.{Extent}
use Rattle.hd_map.specs.declared.types.RegionSize.{RegionSize}
use Rattle.hd_survey.specs.Regions.{AreSizesByRoots}
use Rattle.hd_pool.specs.Told.{size_told}
use Rattle.hd_pool.proofs.Extents.{points-few, sizes-told}
use Rattle.hd_pool.proofs.pool_view.PoolViewSideView.sizes.Goals as goal

pub sizes_told-requires : goal.sizes_told-requires
sizes_told-requires g c =
    let m = g.G.Heights.map c.self.inside.grid.now in
    let whole = g.met.G.Heights.whole c.self.inside.grid.now in
    subst (λ (es : List Extent). All (λ (e : Extent). e.points < 2 ^ 32) es) (sym c.as_slice.ensures)
    (points-few m whole g.S.Side.NAME c.in-Some.extents (c.self.invariant.are_extents c.in-Some.extents c.in-Some.is))

pub returns-in-Some : goal.returns-in-Some
returns-in-Some g c =
    let m = g.G.Heights.map c.self.inside.grid.now in
    let side = g.S.Side.NAME in
    let whole = g.met.G.Heights.whole c.self.inside.grid.now in
    IfOk-weaker c.sizes_told.result _ _
    (λ list are. subst (λ grid. AreSizesByRoots (g.G.Heights.map grid) side list) c.self.view_is
    (subst (λ (xs : List RegionSize). AreSizesByRoots m side xs) (sym (are ∙ ap (map size_told) c.as_slice.ensures))
    (sizes-told m whole side c.in-Some.extents (c.self.invariant.are_extents c.in-Some.extents c.in-Some.is))))
    c.sizes_told.ensures

pub sizes_told-requires-2 : goal.sizes_told-requires-2
sizes_told-requires-2 g c =
    let m = g.G.Heights.map c.self.inside.grid.now in
    let whole = g.met.G.Heights.whole c.self.inside.grid.now in
    subst (λ (es : List Extent). All (λ (e : Extent). e.points < 2 ^ 32) es) (sym c.as_slice-2.ensures)
    (points-few m whole g.S.Side.NAME c.in_ok-extents.extents (c.in_ok-extents.ensures m whole c.self.invariant.is_pool))

pub returns : goal.returns
returns g c =
    let m = g.G.Heights.map c.self.inside.grid.now in
    let side = g.S.Side.NAME in
    let whole = g.met.G.Heights.whole c.self.inside.grid.now in
    IfOk-weaker c.sizes_told-2.result _ _
    (λ list are. subst (λ grid. AreSizesByRoots (g.G.Heights.map grid) side list) c.self.view_is
    (subst (λ (xs : List RegionSize). AreSizesByRoots m side xs) (sym (are ∙ ap (map size_told) c.as_slice-2.ensures))
    (sizes-told m whole side c.in_ok-extents.extents (c.in_ok-extents.ensures m whole c.self.invariant.is_pool))))
    c.sizes_told-2.ensures
