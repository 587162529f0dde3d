use Rattle.std.proofs.Common.{subst, sym}
use Rattle.hd_survey.specs.Findings.{AreFindings, Found}
use Rattle.hd_survey.proofs.Found.{with_merges}
use Rattle.hd_survey.proofs.findings.Findings.add_merges.Goals as goal

pub returns-clause-findings : goal.returns-clause-findings
returns-clause-findings g c =
    let m = g.G.Heights.map c.args._grid.now in
    let side = g.S.Side.NAME in
    let before : Found = record {
      sizes = c.self.inside.sizes;
      merges = c.self.inside.merges;
      kept = c.self.inside.kept;
      pruned = c.self.inside.pruned;
      features =
          c.self.inside.features;
      regions = c.self.inside.regions;
    } in
    let were : AreFindings m side before = subst (AreFindings m side) (sym c.self.view_is) c.requires.findings in
    with_merges m side before c.args.merges were c.requires.merges
