use Rattle.std.proofs.Common.{subst}
use Rattle.std.proofs.lemmas.Result.{IfOk-weaker}
use Rattle.hd_survey.specs.Findings.{ArePitMerges}
use Rattle.hd_survey.proofs.grid_view.GridView.into_merges.Goals as goal

pub returns : goal.returns
returns g c =
    IfOk-weaker c.into_merges.result _ _
    (λ merges are. subst (λ grid. ArePitMerges (g.G.Heights.map grid) g.S.Side.NAME merges) c.self.view_is are)
    c.into_merges.ensures
