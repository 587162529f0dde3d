-- What kept pits own after pruning: all points whose roots they own.
use Rattle.std.specs.Prelude.{ℕ, List, Contains}
use Rattle.hd_lines.specs.Lines.{IsOwnedBy}
use Rattle.hd_map.specs.declared.types.Rank.{Rank}
use Rattle.hd_map.specs.declared.types.RegionSize.{RegionSize}
use Rattle.hd_map.specs.declared.types.SideName.{SideName}
use Rattle.hd_map.specs.Map.{Map}
use Rattle.hd_map.specs.Pruning.{Leaving, IsPruning}
use Rattle.hd_map.specs.Sums.{IsCount}
use Rattle.hd_regions.specs.Regions.{region_pits}

-- the steps of the pruning of a map, and the regions that it leaves: the kept pits in position order, each with the
-- number of the points that it owns
pub record ArePrunedRegions (m : Map) (side : SideName) (thousandths : ℕ) (steps : List Leaving) (kept : List RegionSize) : Type 0 where
  pub owner : Rank → Rank
  pub pruning : IsPruning m side thousandths steps (region_pits kept) owner
  pub points : (size : RegionSize) → Contains kept size → IsCount (λ p. IsOwnedBy m side owner p size.pit) size.points
