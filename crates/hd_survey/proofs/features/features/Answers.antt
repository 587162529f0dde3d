use Rattle.std.proofs.Common.{◌∙◌, List, length, sym, subst}
use Rattle.std.specs.Prelude.{All, IfOk}
use Rattle.std.proofs.lemmas.Result.{IfOk-weaker}
use Rattle.hd_map.specs.Map.{Map}
use Rattle.hd_prune.specs.declared.step.Kept.{Kept}
use Rattle.hd_regions.specs.declared.tally.Tally.{Tally}
use Rattle.hd_survey.specs.Features.{AreFeaturesWith}
use Rattle.hd_survey.specs.Findings.{AreKeptFeatures}
use Rattle.hd_survey.specs.Heights.{HasHeights}
use Rattle.hd_survey.specs.Tallies.{AreRegionTallies}
use Rattle.hd_survey.proofs.FeatureNeeds.{outcome, pruned_heights}
use Rattle.hd_prune.proofs.Spans.{range_heights}
use Rattle.hd_survey.proofs.Owning.{tallies_have}
use Rattle.hd_survey.proofs.features.features.Given.{Over}
use Rattle.hd_survey.proofs.features.features.Goals as goal
use Rattle.hd_survey.proofs.features.features.Goals.{After-as_slice, After-list_features}

-- the tallies as they are read are those of the grid's regions
tallies_are : (g : Over) (c : After-as_slice g) → AreRegionTallies (g.G.Heights.map c.args.grid.now) g.S.Side.NAME c.as_slice.result.now
tallies_are g c =
    subst (λ (m : Map). AreRegionTallies m g.S.Side.NAME c.as_slice.result.now) c.requires.view
    (subst (λ (xs : List Tally). AreRegionTallies (g.V.SideView.map c.args.view.now) g.S.Side.NAME xs) (sym c.as_slice.ensures) c.in_ok-tallies.ensures)

pub owned_tallies-requires : goal.owned_tallies-requires
owned_tallies-requires g c =
    let m = g.G.Heights.map c.args.grid.now in (
      m,
      g.S.Side.NAME,
      c.args.percent.thousandths,
      g.met.G.Heights.whole c.args.grid.now,
      c.in_ok-pruned.ensures,
      tallies_have m g.S.Side.NAME c.as_slice.result.now
          (tallies_are g (goal.at.owned_tallies-requires g c).After-as_slice),
      c.cells_of.ensures,
    )

pub list_features-requires-clause-heights : goal.list_features-requires-clause-heights
list_features-requires-clause-heights g c =
    let all = c.in_ok-pruned.pruned in
    subst (λ (ks : List Kept). All HasHeights ks) (sym c.as_slice-2.ensures)
    (pruned_heights (g.G.Heights.map c.args.grid.now) g.S.Side.NAME c.args.percent.thousandths (g.met.G.Heights.whole c.args.grid.now) all.steps all.kept all.owners c.in_ok-pruned.ensures)

pub list_features-requires-clause-range : goal.list_features-requires-clause-range
list_features-requires-clause-range g c = λ r is. range_heights (g.G.Heights.map c.args.grid.now) r (g.met.G.Heights.whole c.args.grid.now) (sym c.requires.range ∙ is)

-- what is known of the list, if it is made
listed : (g : Over) (c : After-list_features g) → IfOk c.list_features.result (AreKeptFeatures (g.G.Heights.map c.args.grid.now) g.S.Side.NAME c.args.percent.thousandths)
listed g c =
    let all = c.in_ok-pruned.pruned in
    let owned = c.in_ok-owned.owned.items in
    let tallies : AreRegionTallies (g.G.Heights.map c.args.grid.now) g.S.Side.NAME c.as_slice.result.now =
    subst (λ (m : Map). AreRegionTallies m g.S.Side.NAME c.as_slice.result.now) c.requires.view
    (subst (λ (xs : List Tally). AreRegionTallies (g.V.SideView.map c.args.view.now) g.S.Side.NAME xs) (sym c.as_slice.ensures) c.in_ok-tallies.ensures) in
    IfOk-weaker c.list_features.result _ _ (λ list is.
    outcome (g.G.Heights.map c.args.grid.now) g.S.Side.NAME c.args.percent.thousandths (g.met.G.Heights.whole c.args.grid.now) all.steps all.kept all.owners c.in_ok-pruned.ensures
    c.as_slice.result.now owned _ c.args.range list tallies c.in_ok-owned.ensures c.NAME.ensures c.requires.range
    (subst (λ (ks : List Kept). AreFeaturesWith c.NAME.result c.args.range ks owned (length ks) list) c.as_slice-2.ensures
    (subst (λ (ts : List Tally). AreFeaturesWith c.NAME.result c.args.range c.as_slice-2.result.now ts (length c.as_slice-2.result.now) list) c.as_slice-3.ensures.value is)))
    c.list_features.ensures

pub returns-clause-are : goal.returns-clause-are
returns-clause-are g c = listed g (goal.at.returns-clause-are g c).After-list_features
