use Rattle.std.proofs.Common.{subst, sym}
use Rattle.hd_survey.specs.Findings.{AreFindings, Found}
use Rattle.hd_survey.proofs.ByRoots.{sizes_by_roots}
use Rattle.hd_survey.proofs.Found.{with_sizes}
use Rattle.hd_survey.proofs.RegionSizes.{sizes_inside}
use Rattle.hd_survey.proofs.findings.Findings.find_sizes_by.Goals as goal
use Rattle.hd_survey.proofs.findings.Findings.find_sizes_by.Goals.{in-Some-1, in-None-1}

pub returns-in_ok-sizes-clause-findings : goal.returns-in_ok-sizes-clause-findings
returns-in_ok-sizes-clause-findings g c =
    let m = g.V.SideView.map c.args.view.now in
    let side = g.S.Side.NAME in
    let before : Found = record {
      sizes = c.self.inside.sizes;
      merges = c.self.inside.merges;
      kept = c.self.inside.kept;
      pruned = c.self.inside.pruned;
      features =
          c.self.inside.features;
      regions = c.self.inside.regions;
    } in
    let were : AreFindings m side before = subst (AreFindings m side) (sym c.self.view_is) c.requires in
    let are = with_sizes m side before c.in_ok-sizes.field-0 were (record {
      are = sizes_by_roots m side c.in_ok-sizes.field-0
          (g.met.V.SideView.whole c.args.view.now) c.in_ok-sizes.ensures;
      by_roots = c.in_ok-sizes.ensures;
      inside = sizes_inside m side c.in_ok-sizes.field-0
          (g.met.V.SideView.whole c.args.view.now) c.in_ok-sizes.ensures;
    }) in
    elim c.match-self.branch [
      | in-Some-1 w ↦ subst (AreFindings m side) (sym w.self-is) are
      | in-None-1 w ↦ subst (AreFindings m side) (sym w.self-is) are
    ]
