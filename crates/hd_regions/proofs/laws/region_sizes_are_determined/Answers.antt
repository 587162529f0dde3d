use Rattle.std.proofs.Common.{sym, subst}
use Rattle.hd_map.specs.declared.types.Rank.{Rank}
use Rattle.hd_map.specs.declared.types.RegionSize.{RegionSize}
use Rattle.hd_map.specs.Region.{IsRoot}
use Rattle.hd_map.specs.Sums.{IsCount}
use Rattle.hd_map.proofs.Prunings.{pits-unique}
use Rattle.hd_regions.specs.Regions.{region_pits}
use Rattle.hd_regions.proofs.Sums.{count-unique, same-by, same_size}
use Rattle.hd_regions.proofs.laws.region_sizes_are_determined.Goals as goal

pub returns : goal.returns
returns c = λ m side a b whole x y.
    same-by (λ (size : RegionSize). size.pit) a b (pits-unique m side (region_pits a) (region_pits b) x.pits y.pits) (λ r s h i e. same_size r.pit s.pit r.points s.points e
    (count-unique (λ p. IsRoot m side p r.pit) r.points s.points (x.points r h) (subst (λ (pit : Rank). IsCount (λ p. IsRoot m side p pit) s.points) (sym e) (y.points s i))))
