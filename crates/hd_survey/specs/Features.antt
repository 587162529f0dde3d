-- Lists of the regions that a pruning leaves, as they are made.
use Rattle.std.specs.Prelude.{◌≡◌, ◌<◌, ℕ, ℤ, List, length, map, Option, slice_index_or}
use Rattle.std.specs.Option.{option_map}
use Rattle.hd_feature.specs.declared.region.Region.{Region}
use Rattle.hd_feature.specs.HeightsAlone.{height_alone}
use Rattle.hd_map.specs.declared.height_range.HeightRange.{HeightRange}
use Rattle.hd_map.specs.declared.types.SideName.{SideName}
use Rattle.hd_map.specs.Map.{Map}
use Rattle.hd_prune.specs.declared.step.Kept.{Kept}
use Rattle.hd_regions.specs.declared.tally.Tally.{Tally}
use Rattle.hd_map.specs.declared.types.Rank.{Rank}
use Rattle.hd_map.specs.HeightRange.{range_of}
use Rattle.hd_map.specs.Presence.{present_heights}
use Rattle.hd_survey.specs.Owned.{owned_points}
use Rattle.hd_survey.specs.Tallies.{no_tally, tally_of}
pub use Rattle.hd_regions.specs.Features.{AreFeatures, IsFeature, feature_pits, lpvh, whole_height}

-- the region of a kept pit with this tally, on a map with this range of heights
abbrev pub feature_with : SideName → Option HeightRange → Kept → Tally → Region
feature_with side range k tally = record {
  pit = k.pit;
  lpvh = lpvh side range k.pit k.nearest;
  points = tally.points;
  edge_low = option_map {T = HeightRange} {U = ℤ} (λ r. r.least) tally.edge;
  edge_high = option_map {T = HeightRange} {U = ℤ} (λ r. r.greatest) tally.edge;
}

-- the region of a kept pit: all points whose roots it owns
abbrev pub feature_of : Map → SideName → (Rank → Rank) → List (Option ℕ) → Kept → Region
feature_of m side owner roots k = feature_with side (range_of (present_heights m)) k (tally_of m (owned_points m owner roots k.pit.index))

-- these regions by their pits and local heights alone
abbrev pub AreHeightsAlone : Map → SideName → ℕ → List Region → Type 0
AreHeightsAlone m side thousandths list = (features : List Region) × AreFeatures m side thousandths features × (list ≡ map height_alone features)

-- the regions of the first n kept pits, with the tallies of their places
pub record AreFeaturesWith (side : SideName) (range : Option HeightRange) (kept : List Kept) (tallies : List Tally) (n : ℕ) (list : List Region) : Type 0 where
  pub whole : length list ≡ n
  pub each : (i : ℕ) (d : Region) (k : Kept) (t : Tally) → i < n → slice_index_or list i d ≡ feature_with side range (slice_index_or kept i k) (slice_index_or tallies i t)

-- the regions of the first n kept pits by their pits and local heights alone
pub record AreHeightsWith (side : SideName) (range : Option HeightRange) (kept : List Kept) (n : ℕ) (list : List Region) : Type 0 where
  pub whole : length list ≡ n
  pub each : (i : ℕ) (d : Region) (k : Kept) → i < n → slice_index_or list i d ≡ feature_with side range (slice_index_or kept i k) no_tally
