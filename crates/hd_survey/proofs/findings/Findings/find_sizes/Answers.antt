use Rattle.std.proofs.Common.{subst, sym}
use Rattle.hd_survey.specs.Findings.{AreFindings, Found}
use Rattle.hd_survey.specs.Regions.{AreSizesByRoots}
use Rattle.hd_survey.proofs.ByRoots.{sizes_by_roots}
use Rattle.hd_survey.proofs.Found.{with_sizes}
use Rattle.hd_survey.proofs.RegionSizes.{sizes_inside}
use Rattle.hd_survey.proofs.findings.Findings.find_sizes.Goals as goal
use Rattle.hd_survey.proofs.findings.Findings.find_sizes.Goals.{in-Some-1, in-None-1}

pub returns-in_ok-into_sizes-clause-findings : goal.returns-in_ok-into_sizes-clause-findings
returns-in_ok-into_sizes-clause-findings g c =
    let m = g.G.Heights.map c.args.grid.now in
    let side = g.S.Side.NAME in
    let sizes = c.in_ok-into_sizes.field-0 in
    let sized : AreSizesByRoots m side sizes = subst (λ x. AreSizesByRoots (g.G.Heights.map x) side sizes) c.in_ok-view.ensures c.in_ok-into_sizes.ensures in
    let before : Found = record {
      sizes = c.self.inside.sizes;
      merges = c.self.inside.merges;
      kept = c.self.inside.kept;
      pruned = c.self.inside.pruned;
      features =
          c.self.inside.features;
      regions = c.self.inside.regions;
    } in
    let were : AreFindings m side before = subst (AreFindings m side) (sym c.self.view_is) c.requires in
    let are = with_sizes m side before sizes were (record {
      are = sizes_by_roots m side sizes (g.met.G.Heights.whole c.args.grid.now) sized;
      by_roots = sized;
      inside =
          sizes_inside m side sizes (g.met.G.Heights.whole c.args.grid.now) sized;
    }) in
    elim c.match-self.branch [
      | in-Some-1 w ↦ subst (AreFindings m side) (sym w.self-is) are
      | in-None-1 w ↦ subst (AreFindings m side) (sym w.self-is) are
    ]
