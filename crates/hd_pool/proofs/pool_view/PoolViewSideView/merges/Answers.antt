use Rattle.std.proofs.Common.{List, subst, sym}
use Rattle.std.specs.Prelude.{All}
use Rattle.hd_map.specs.declared.types.Rank.{Rank}
use Rattle.hd_map.specs.Pruning.{ArePits}
use Rattle.hd_steep.specs.Crossings.{HasPits, passes_of}
use Rattle.hd_survey.specs.PitLinks.{AreRegionCrossings}
use Rattle.hd_pool.proofs.ByIndex.{same-crossings, same-ends}
use Rattle.hd_pool.proofs.Labels.{regions_of}
use Rattle.hd_pool.proofs.pool_view.PoolViewSideView.merges.Goals as goal

pub merges_of_crossings-requires-clause-pits : goal.merges_of_crossings-requires-clause-pits
merges_of_crossings-requires-clause-pits g c =
    let m = g.G.Heights.map c.self.inside.grid.now in
    let whole = g.met.G.Heights.whole c.self.inside.grid.now in
    subst (ArePits m g.S.Side.NAME) (sym c.pits.ensures) (c.self.invariant.are_roots.pits m whole c.self.invariant.is_pool)

pub merges_of_crossings-requires-clause-ends : goal.merges_of_crossings-requires-clause-ends
merges_of_crossings-requires-clause-ends g c =
    subst (λ (ps : List Rank). All (HasPits ps) c.in_ok-links-2.links.items) (sym c.pits.ensures)
    (same-ends g.S.Side.NAME c.self.inside.roots.pits c.in_ok-links.links.items c.in_ok-links-2.links.items c.in_ok-links-2.ensures c.in_ok-links.ensures.ends)

pub merges_of_crossings-requires-clause-passes : goal.merges_of_crossings-requires-clause-passes
merges_of_crossings-requires-clause-passes g c =
    let m = g.G.Heights.map c.self.inside.grid.now in
    let side = g.S.Side.NAME in
    let whole = g.met.G.Heights.whole c.self.inside.grid.now in
    let labels = regions_of m whole side in
    subst (λ (ps : List Rank). AreRegionCrossings m side (passes_of side ps c.in_ok-links-2.links.items)) (sym c.pits.ensures) (
      labels.0,
      labels.1,
      same-crossings side c.self.inside.roots.pits c.in_ok-links.links.items c.in_ok-links-2.links.items c.in_ok-links-2.ensures m labels.0
          (c.in_ok-links.ensures.crossings m whole c.self.invariant.is_pool labels.0 labels.1),
    )
