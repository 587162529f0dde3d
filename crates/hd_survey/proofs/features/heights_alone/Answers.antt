use Rattle.std.proofs.Common.{List, sym, subst, ◌∙◌}
use Rattle.std.specs.Prelude.{All, IfOk}
use Rattle.hd_prune.specs.declared.step.Kept.{Kept}
use Rattle.hd_survey.specs.Heights.{HasHeights}
use Rattle.std.proofs.lemmas.Result.{IfOk-weaker}
use Rattle.hd_survey.proofs.Found.{kept_known}
use Rattle.hd_survey.proofs.FeatureNeeds.{HeightOutcome, height_outcome, heights_known}
use Rattle.hd_prune.proofs.Spans.{range_heights}
use Rattle.hd_survey.proofs.features.heights_alone.Given.{Over}
use Rattle.hd_survey.proofs.features.heights_alone.Goals as goal
use Rattle.hd_survey.proofs.features.heights_alone.Goals.{After-list_heights}

-- what is known of the list, if it is made
listed : (g : Over) (c : After-list_heights g) → IfOk c.list_heights.result (HeightOutcome (g.G.Heights.map c.args.grid.now) g.S.Side.NAME c.args.percent.thousandths)
listed g c =
    let found = kept_known (g.G.Heights.map c.args.grid.now) g.S.Side.NAME c.args.percent.thousandths c.find_kept.new.self c.kept-kept.result.now c.find_kept.ensures.findings
    c.in_ok-find_kept.ensures.found c.kept-kept.ensures in
    IfOk-weaker c.list_heights.result _ _ (λ list is.
    height_outcome (g.G.Heights.map c.args.grid.now) g.S.Side.NAME c.args.percent.thousandths (g.met.G.Heights.whole c.args.grid.now) found.roots c.kept-kept.result.now.pits found.regions found.alone
    c.as_slice.result.now c.NAME.result c.args.range list c.as_slice.ensures c.NAME.ensures c.requires.range is) c.list_heights.ensures

pub list_heights-requires-clause-heights : goal.list_heights-requires-clause-heights
list_heights-requires-clause-heights g c =
    let found = kept_known (g.G.Heights.map c.args.grid.now) g.S.Side.NAME c.args.percent.thousandths c.find_kept.new.self c.kept-kept.result.now c.find_kept.ensures.findings
    c.in_ok-find_kept.ensures.found c.kept-kept.ensures in
    subst (λ (ks : List Kept). All HasHeights ks) (sym c.as_slice.ensures)
    (heights_known (g.G.Heights.map c.args.grid.now) g.S.Side.NAME c.args.percent.thousandths (g.met.G.Heights.whole c.args.grid.now) found.roots c.kept-kept.result.now.pits found.regions found.alone)

pub list_heights-requires-clause-range : goal.list_heights-requires-clause-range
list_heights-requires-clause-range g c = λ r is. range_heights (g.G.Heights.map c.args.grid.now) r (g.met.G.Heights.whole c.args.grid.now) (sym c.requires.range ∙ is)

pub returns-clause-are : goal.returns-clause-are
returns-clause-are g c = IfOk-weaker c.list_heights.result _ _ (λ list o. o.are) (listed g (goal.at.returns-clause-are g c).After-list_heights)

pub returns-clause-points : goal.returns-clause-points
returns-clause-points g c = IfOk-weaker c.list_heights.result _ _ (λ list o. o.points) (listed g (goal.at.returns-clause-points g c).After-list_heights)

pub returns-clause-heights : goal.returns-clause-heights
returns-clause-heights g c = IfOk-weaker c.list_heights.result _ _ (λ list o. o.heights) (listed g (goal.at.returns-clause-heights g c).After-list_heights)

pub returns-clause-few : goal.returns-clause-few
returns-clause-few g c = IfOk-weaker c.list_heights.result _ _ (λ list o. o.few) (listed g (goal.at.returns-clause-few g c).After-list_heights)
