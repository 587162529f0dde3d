use Rattle.std.proofs.Common.{◌≡◌, ◌⊎◌, ℤ, List, [], MatchOption, subst}
use Rattle.hd_feature.specs.Value.{IsStatistic}
use Rattle.hd_feature.proofs.HeightsAlone.{attributes_alone}
use Rattle.hd_feature.proofs.laws.heights_alone_serve.Goals as goal

pub returns : goal.returns
returns c = λ n regions area value serves is.
    subst (λ (values : List ℤ). MatchOption value ((values ≡ []) ⊎ (area ≡ 0)) (IsStatistic n.statistic values area)) (attributes_alone n regions serves) is
