use Rattle.hd_feature.specs.Value.{attributes}
use Rattle.hd_map.specs.Presence.{present_heights}
use Rattle.hd_stats.proofs.Determined.{AreCounts-unique, AreSameFills-unique, IsHeightParameter-unique, IsShare-unique}
use Rattle.hd_stats.proofs.laws.further_values_are_determined.Goals as goal

pub returns-clause-heights : goal.returns-clause-heights
returns-clause-heights c = λ m name a b x y. IsHeightParameter-unique c.reduced_fraction_is_determined.ensures name (present_heights m) a b x y

pub returns-clause-shares : goal.returns-clause-shares
returns-clause-shares c = λ n regions above a b x y. IsShare-unique c.reduced_fraction_is_determined.ensures (attributes n regions) above a b x y

pub returns-clause-counts : goal.returns-clause-counts
returns-clause-counts c = λ n regions bins a b x y. AreCounts-unique (attributes n regions) bins a b x y

pub returns-clause-fills : goal.returns-clause-fills
returns-clause-fills c = λ m side kept a b x y. AreSameFills-unique c.reduced_fraction_is_determined.ensures m side kept a b x y
