-- The regions of a side after pruning, by what feature parameters take of them.
use Rattle.std.specs.Prelude.{◌≡◌, ◌-ℤ◌, ℕ, ℤ, pos, List, map, Option, Some, None, Contains}
use Rattle.hd_feature.specs.declared.region.Region.{Region}
use Rattle.hd_lines.specs.Lines.{IsOwnedBy}
use Rattle.hd_map.specs.declared.height_range.HeightRange.{HeightRange}
use Rattle.hd_map.specs.declared.types.Rank.{Rank}
use Rattle.hd_map.specs.declared.types.SideName.{SideName}
use Rattle.hd_map.specs.declared.types.SideName.TheVariants.{Dales, Hills}
use Rattle.hd_map.specs.EdgePoint.{IsEdge}
use Rattle.hd_map.specs.HeightRange.{range_of}
use Rattle.hd_map.specs.Map.{Map}
use Rattle.hd_map.specs.NearestSaddle.{NearestSaddleIs, local_height}
use Rattle.hd_map.specs.Presence.{present_heights}
use Rattle.hd_map.specs.Pruning.{Leaving, IsPruning}
use Rattle.hd_map.specs.Sums.{EdgeMember, GreatestIs, IsCount, LeastIs}

-- how far a pit is from the farthest height: the greatest height less that of the pit, for hills the height of
-- the peak less the least height
abbrev pub whole_height : SideName → Option HeightRange → Rank → ℤ
whole_height side None p = pos 0
whole_height Dales (Some range) p = range.greatest -ℤ p.height
whole_height Hills (Some range) p = p.height -ℤ range.least

-- the local height at the nearest saddle, and without one the whole height
abbrev pub lpvh : SideName → Option HeightRange → Rank → Option Rank → ℤ
lpvh side range p (Some s) = pos (local_height p s)
lpvh side range p None = whole_height side range p

-- the pits of features
abbrev pub feature_pits : List Region → List Rank
feature_pits features = map {A = Region} {B = Rank} (λ r. r.pit) features

-- the region of a kept pit: its local height, the number of the points that it owns, and the least and the greatest
-- height of the edge points among them
pub record IsFeature (m : Map) (side : SideName) (owner : Rank → Rank) (kept : List Rank) (r : Region) : Type 0 where
  pub nearest : Option Rank
  pub is_nearest : NearestSaddleIs m side kept r.pit nearest
  pub height : r.lpvh ≡ lpvh side (range_of (present_heights m)) r.pit nearest
  pub points : IsCount (λ p. IsOwnedBy m side owner p r.pit) r.points
  pub edge_low : LeastIs (EdgeMember (λ p. IsOwnedBy m side owner p r.pit) (IsEdge m)) r.edge_low
  pub edge_high : GreatestIs (EdgeMember (λ p. IsOwnedBy m side owner p r.pit) (IsEdge m)) r.edge_high

-- the regions of the kept pits after pruning, in position order
pub record AreFeatures (m : Map) (side : SideName) (thousandths : ℕ) (features : List Region) : Type 0 where
  pub steps : List Leaving
  pub owner : Rank → Rank
  pub pruning : IsPruning m side thousandths steps (feature_pits features) owner
  pub each : (r : Region) → Contains features r → IsFeature m side owner (feature_pits features) r
