use Rattle.std.proofs.Common.{subst, sym}
use Rattle.hd_survey.specs.Findings.{AreFindings, Found}
use Rattle.hd_survey.proofs.Found.{with_merges}
use Rattle.hd_survey.proofs.findings.Findings.find_merges_by.Goals as goal
use Rattle.hd_survey.proofs.findings.Findings.find_merges_by.Goals.{in-Some-1, in-None-1}

pub returns-in_ok-merges-clause-findings : goal.returns-in_ok-merges-clause-findings
returns-in_ok-merges-clause-findings g c =
    let m = g.V.SideView.map c.args.view.now in
    let side = g.S.Side.NAME in
    let before : Found = record {
      sizes = c.self.inside.sizes;
      merges = c.self.inside.merges;
      kept = c.self.inside.kept;
      pruned = c.self.inside.pruned;
      features =
          c.self.inside.features;
      regions = c.self.inside.regions;
    } in
    let were : AreFindings m side before = subst (AreFindings m side) (sym c.self.view_is) c.requires in
    let are = with_merges m side before c.in_ok-merges.field-0 were c.in_ok-merges.ensures in
    elim c.match-self.branch [
      | in-Some-1 w ↦ subst (AreFindings m side) (sym w.self-is) are
      | in-None-1 w ↦ subst (AreFindings m side) (sym w.self-is) are
    ]
