use Rattle.hd_feature.specs.Value.{is_significant}
use Rattle.hd_feature.proofs.ValueBounds.{IsStatistic-small}
use Rattle.hd_feature.proofs.laws.mean_height_is_small.Goals as goal

pub returns : goal.returns
returns c = λ n regions area bound f lpvh mean heights value.
    IsStatistic-small c.reduced_fraction_is_no_greater.ensures (is_significant n.kind n.significance regions) regions area bound f n.attribute n.statistic lpvh mean heights value
