use Rattle.std.proofs.Common.{◌≡◌, ℤ, List, [], MatchOption, subst}
use Rattle.hd_feature.proofs.HeightsAlone.{attributes_alone}
use Rattle.hd_stats.specs.Distribution.{AreCounts, IsShare}
use Rattle.hd_stats.proofs.laws.heights_alone_serve_distributions.Goals as goal

pub returns-clause-counts : goal.returns-clause-counts
returns-clause-counts c = λ n regions bins a serves is. subst (λ (values : List ℤ). MatchOption a (values ≡ []) (AreCounts values bins)) (attributes_alone n regions serves) is

pub returns-clause-shares : goal.returns-clause-shares
returns-clause-shares c = λ n regions above a serves is. subst (λ (values : List ℤ). MatchOption a (values ≡ []) (IsShare values above)) (attributes_alone n regions serves) is
