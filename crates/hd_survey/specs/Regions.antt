-- How many points regions have, by the numbers of their pits.
use Rattle.std.specs.Prelude.{◌≡◌, ◌<◌, ℕ, Bool, false, List, length, map, filter, count_by, Option, Some, None, nat_eq, slice_index, slice_index_or}
use Rattle.std.specs.List.{enumerate_from}
use Rattle.hd_map.specs.declared.types.Cell.TheVariants.{Bad}
use Rattle.hd_map.specs.declared.types.Rank.{Rank}
use Rattle.hd_map.specs.declared.types.RegionSize.{RegionSize}
use Rattle.hd_map.specs.declared.types.SideName.{SideName}
use Rattle.hd_map.specs.Map.{Map, height_or_zero}
use Rattle.hd_map.specs.Region.{AreRegions}
use Rattle.hd_steep.specs.Numbering.{Numbering}
pub use Rattle.hd_regions.specs.Regions.{AreRegionSizes}

-- whether a point has this root
abbrev pub names : Option ℕ → ℕ → Bool
names (Some root) index = nat_eq root index
names None index = false

-- the indexes of the pits in position order: those of the points that are their own root
abbrev pub pits_of : List (Option ℕ) → List ℕ
pits_of roots = map (λ entry. entry.0) (filter (λ entry. names entry.1 entry.0) (enumerate_from 0 roots))

-- how many points have this root
abbrev pub points_of : List (Option ℕ) → ℕ → ℕ
points_of roots pit = count_by (λ root. names root pit) roots

-- the rank of the measured point of an index
abbrev pub rank_at : Map → ℕ → Rank
rank_at m index = record { height = height_or_zero (slice_index_or m.cells index Bad); index = index }

-- the pits in position order
abbrev pub pit_ranks : Map → List (Option ℕ) → List Rank
pit_ranks m roots = map (rank_at m) (pits_of roots)

-- the region of a pit, with the number of the points that have it as their root
abbrev pub region_size : List (Option ℕ) → Rank → RegionSize
region_size roots pit = record { pit = pit; points = points_of roots pit.index }

-- the regions of a map on a side by a list of the roots, in position order of their pits
pub record AreSizesByRoots (m : Map) (side : SideName) (sizes : List RegionSize) : Type 0 where
  pub roots : List (Option ℕ)
  pub regions : AreRegions m side roots
  pub are : sizes ≡ map (region_size roots) (pit_ranks m roots)

-- how many points have this number
abbrev pub points_numbered : List ℕ → ℕ → ℕ
points_numbered numbers i = count_by (λ n. nat_eq n i) numbers

-- by number of a pit, how many points have that number
pub record CountsPoints (regions : Numbering) (points : List ℕ) : Type 0 where
  pub whole : length points ≡ length regions.pits
  pub counted : (i : ℕ) → i < length regions.pits → slice_index points i ≡ points_numbered regions.numbers i

-- by number of a pit, how many points have that pit as their root
pub record AreCountsOf (roots : List (Option ℕ)) (pits : List Rank) (points : List ℕ) : Type 0 where
  pub whole : length points ≡ length pits
  pub each : (n : ℕ) (d : Rank) → n < length pits → slice_index points n ≡ points_of roots (slice_index_or pits n d).index
