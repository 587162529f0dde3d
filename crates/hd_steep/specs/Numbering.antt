-- The regions of a map by the numbers of their pits.
use Rattle.std.specs.Prelude.{◌≡◌, ◌<◌, ◌+◌, ℕ, List, length, map, Option, Some, None, slice_get, slice_index, nat_lt, MatchOption, if◌then◌else◌}
use Rattle.std.specs.Option.{option_map}
use Rattle.hd_map.specs.declared.types.Rank.{Rank}
use Rattle.hd_map.specs.declared.types.SideName.{SideName}
use Rattle.hd_map.specs.Map.{Map, cell_count}
use Rattle.hd_map.specs.Pruning.{ArePits}
use Rattle.hd_map.specs.Region.{AreRegions}
use Rattle.hd_steep.specs.Links.{NoPointAt, IsRootAt}

-- the pits in position order, and by index the number of the pit in whose region the point lies
pub record Numbering : Type 0 where
  pub pits : List Rank
  pub numbers : List ℕ

-- the index of the pit with this number, and none where the number is past the pits
abbrev pub root_of : List Rank → ℕ → Option ℕ
root_of pits n = option_map (λ (pit : Rank). pit.index) (slice_get pits n)

-- by index the index of the pit
abbrev pub roots_of : Numbering → List (Option ℕ)
roots_of regions = map (root_of regions.pits) regions.numbers

-- the number, where a pit has it
abbrev pub number_of : List Rank → ℕ → Option ℕ
number_of pits n = if nat_lt n (length pits) then Some n else None

-- at the index of each pit its number is written, counted from the first one, and what stands at the others stays
pub record AreWrittenAtPits (m : Map) (side : SideName) (pits : List Rank) (first : ℕ) (old new : List ℕ) : Type 0 where
  pub whole : length new ≡ length old
  pub own : (k : ℕ) → IsRootAt m side k k → (n : ℕ) × (slice_index new k ≡ first + n) × (root_of pits n ≡ Some k)
  pub other : (k : ℕ) → (IsRootAt m side k k → ⊥) → slice_index new k ≡ slice_index old k

-- the label of an index: that of the root of the point that has it, and none where no point has it
abbrev pub IsLabelOf : Map → SideName → ℕ → Option ℕ → Type 0
IsLabelOf m side k label = MatchOption label (NoPointAt m k) (λ root. IsRootAt m side k root)

-- at each index stands the number of the pit
pub record AreNumbers (m : Map) (side : SideName) (pits : List Rank) (numbers : List ℕ) : Type 0 where
  pub whole : length numbers ≡ cell_count m.size
  pub each : (k : ℕ) → k < length numbers → IsLabelOf m side k (root_of pits (slice_index numbers k))

-- the regions of a map on a side, and its pits
pub record AreNumbered (m : Map) (side : SideName) (regions : Numbering) : Type 0 where
  pub pits : ArePits m side regions.pits
  pub roots : AreRegions m side (roots_of regions)
