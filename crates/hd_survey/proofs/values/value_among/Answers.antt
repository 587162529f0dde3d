use Rattle.std.proofs.Common.{◌∙◌}
use Rattle.std.proofs.lemmas.Result.{IfOk-weaker}
use Rattle.hd_survey.proofs.FeatureNeeds.{served, small_value}
use Rattle.hd_survey.proofs.values.value_among.Goals as goal

pub returns-clause-is : goal.returns-clause-is
returns-clause-is g c =
    IfOk-weaker c.evaluate.result _ _ (λ value is.
    served c.heights_alone_serve.ensures (g.G.Heights.map c.args.grid.now) c.args.notation.now c.in_ok-regions.regions _ value c.in_ok-regions.ensures.are
    (c.from.ensures ∙ c.requires.presence.count) is)
    c.evaluate.ensures

pub returns-clause-small : goal.returns-clause-small
returns-clause-small g c = λ attribute statistic.
    IfOk-weaker c.evaluate.result _ _ (λ value is.
    small_value c.mean_height_is_small.ensures c.args.notation.now c.in_ok-regions.regions _ value attribute statistic c.in_ok-regions.ensures.heights c.in_ok-regions.ensures.few is)
    c.evaluate.ensures
