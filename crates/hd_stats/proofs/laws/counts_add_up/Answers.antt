use Rattle.hd_feature.specs.Value.{attributes}
use Rattle.hd_stats.proofs.BinTotals.{AreCounts-total}
use Rattle.hd_stats.proofs.laws.counts_add_up.Goals as goal

pub returns : goal.returns
returns c = λ n regions bins counts some is. AreCounts-total (attributes n regions) bins counts some is
