use Rattle.std.proofs.Common.{subst, sym}
use Rattle.hd_num.specs.declared.percent.Percent.{Percent}
use Rattle.hd_survey.specs.Findings.{AreFindings, Found, TellsPruning}
use Rattle.hd_survey.proofs.Found.{with_pruned}
use Rattle.hd_survey.proofs.findings.Findings.keep_pruned.Goals as goal

pub returns-clause-findings : goal.returns-clause-findings
returns-clause-findings g c =
    let m = g.G.Heights.map c.args.grid.now in
    let side = g.S.Side.NAME in
    let before : Found = record {
      sizes = c.self.inside.sizes;
      merges = c.self.inside.merges;
      kept = c.self.inside.kept;
      pruned = c.self.inside.pruned;
      features =
          c.self.inside.features;
      regions = c.self.inside.regions;
    } in
    let were : AreFindings m side before = subst (AreFindings m side) (sym c.self.view_is) c.requires.findings in
    let left = c.in_ok-left.left in
    with_pruned m side before left were (subst (λ (p : Percent). TellsPruning m side p.thousandths left) (sym c.in_ok-left.ensures.percent) c.in_ok-left.ensures.left)
