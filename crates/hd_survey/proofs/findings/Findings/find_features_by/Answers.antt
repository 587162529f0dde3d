use Rattle.std.proofs.Common.{subst, sym}
use Rattle.hd_survey.specs.Findings.{AreFindings, Found}
use Rattle.hd_survey.proofs.Found.{without_features}
use Rattle.hd_survey.proofs.findings.Findings.find_features_by.Goals as goal

pub features-requires-clause-findings : goal.features-requires-clause-findings
features-requires-clause-findings g c =
    let m = g.G.Heights.map c.args.grid.now in
    let side = g.S.Side.NAME in
    let before : Found = record {
      sizes = c.self.inside.sizes;
      merges = c.self.inside.merges;
      kept = c.self.inside.kept;
      pruned = c.self.inside.pruned;
      features =
          c.self.inside.features;
      regions = c.self.inside.regions;
    } in
    without_features m side before (subst (AreFindings m side) (sym c.self.view_is) c.requires.findings)
