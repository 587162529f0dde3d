use Rattle.std.proofs.Common.{None, ap, subst, sym}
use Rattle.hd_survey.specs.Findings.{AreFindings, Found}
use Rattle.hd_survey.proofs.Found.{without_regions}
use Rattle.hd_survey.proofs.findings.Findings.forget_regions.Goals as goal

pub returns : goal.returns
returns g c =
    let m = g.G.Heights.map c.args.grid.now in
    let side = g.S.Side.NAME in
    let before : Found = record {
      sizes = c.self.inside.sizes;
      merges = c.self.inside.merges;
      kept = c.self.inside.kept;
      pruned = c.self.inside.pruned;
      features =
          c.self.inside.features;
      regions = c.self.inside.regions;
    } in
    let are = without_regions m side before (subst (AreFindings m side) (sym c.self.view_is) c.requires) in
    record {
      findings = rw (c.count_walk.ensures, c.take.ensures.after) are;
      forgotten = rw (c.count_walk.ensures, c.take.ensures.after) (ap (λ (f : Found).
          record { sizes = f.sizes; merges = f.merges; kept = f.kept; pruned = f.pruned; features = f.features; regions = None }) c.self.view_is);
    }
