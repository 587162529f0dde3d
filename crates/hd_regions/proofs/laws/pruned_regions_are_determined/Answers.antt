use Rattle.std.proofs.Common.{sym, subst}
use Rattle.hd_lines.specs.Lines.{IsOwnedBy}
use Rattle.hd_map.specs.declared.types.Rank.{Rank}
use Rattle.hd_map.specs.declared.types.RegionSize.{RegionSize}
use Rattle.hd_map.specs.Sums.{IsCount}
use Rattle.hd_regions.specs.Regions.{region_pits}
use Rattle.hd_regions.proofs.Sums.{count-unique, same-by, same_size}
use Rattle.hd_regions.proofs.laws.pruned_regions_are_determined.Goals as goal

pub returns : goal.returns
returns c = λ m side thousandths xs ys a b whole x y.
    let same = c.pruning_is_determined.ensures m side thousandths xs ys (region_pits a) (region_pits b) x.owner y.owner x.pruning y.pruning in (
      same.0,
      same-by (λ (size : RegionSize). size.pit) a b same.1 (λ r s h i e. same_size r.pit s.pit r.points s.points e
          (count-unique (λ p. IsOwnedBy m side x.owner p r.pit) r.points s.points (x.points r h)
          (subst (λ (of : Rank → Rank). IsCount (λ p. IsOwnedBy m side of p r.pit) s.points) (sym same.2)
          (subst (λ (pit : Rank). IsCount (λ p. IsOwnedBy m side y.owner p pit) s.points) (sym e) (y.points s i))))),
    )
