use Rattle.std.proofs.Common.{subst, sym}
use Rattle.hd_num.specs.declared.percent.Percent.{Percent}
use Rattle.hd_survey.specs.Findings.{AreFindings, AreKeptPits, Found}
use Rattle.hd_survey.proofs.Found.{with_kept}
use Rattle.hd_survey.proofs.findings.Findings.find_kept.Goals as goal
use Rattle.hd_survey.proofs.findings.Findings.find_kept.Goals.{then-is_some+in_ok-find_merges, else-is_some}

pub returns-clause-findings : goal.returns-clause-findings
returns-clause-findings g c =
    let m = g.G.Heights.map c.args.grid.now in
    let side = g.S.Side.NAME in
    let before : Found = record {
      sizes = c.self-2.inside.sizes;
      merges = c.self-2.inside.merges;
      kept = c.self-2.inside.kept;
      pruned = c.self-2.inside.pruned;
      features =
          c.self-2.inside.features;
      regions = c.self-2.inside.regions;
    } in
    let still : AreFindings m side c.if-is_some.self = elim c.if-is_some.branch [
      | then-is_some+in_ok-find_merges w ↦ subst (AreFindings m side) (sym w.self-is) w.find_merges.ensures.findings
      | else-is_some w ↦ subst (AreFindings m side) (sym w.self-is) c.requires.findings
    ] in
    let were : AreFindings m side before = subst (AreFindings m side) (sym c.self-2.view_is) still in
    let kept = c.in_ok-kept.kept in
    with_kept m side before kept were (subst (λ (p : Percent). AreKeptPits m side p.thousandths kept.pits) (sym c.in_ok-kept.ensures.percent) c.in_ok-kept.ensures.pits)
