use Rattle.std.proofs.Common.{List, subst, sym, ◌∙◌}
use Rattle.hd_feature.specs.declared.region.Region.{Region}
use Rattle.hd_survey.specs.Findings.{AreKeptFeatures}
use Rattle.hd_survey.proofs.Found.{features_known}
use Rattle.hd_survey.proofs.values.known_features.Goals as goal

pub returns : goal.returns
returns g c =
    let m = g.G.Heights.map c.args._grid.now in
    let side = g.S.Side.NAME in
    let known = features_known m side c.args.percent.thousandths c.args.findings.now c.features-known.result.now c.requires.findings c.requires.found c.features-known.ensures in
    subst (λ (list : List Region). AreKeptFeatures m side c.args.percent.thousandths list) (sym (c.in_ok-list.ensures ∙ c.as_slice.ensures)) known
