-- The neighbours of a point that are below it, and the pits that they belong to.
use Rattle.std.specs.Prelude.{◌≡◌, ℕ, true, List, Option, Contains, AllPairs, slice_get}
use Rattle.hd_map.specs.declared.types.Rank.{Rank}
use Rattle.hd_map.specs.declared.types.SideName.{SideName}
use Rattle.hd_map.specs.Map.{Map}
use Rattle.hd_map.specs.Rank.{below_by}
use Rattle.hd_map.specs.Region.{LowerNeighbour, IsRoot}

-- the neighbours of s that are below it, in the order of the side, each with its root
pub record AreLowerNeighbours (m : Map) (side : SideName) (s : Rank) (found : List (Rank × Rank)) : Type 0 where
  pub each : (b r : Rank) → Contains found (b, r) → LowerNeighbour m side s b × IsRoot m side b r
  pub all : (b : Rank) → LowerNeighbour m side s b → (r : Rank) × Contains found (b, r)
  pub in_order : AllPairs (λ x y. below_by side x.0 y.0 ≡ true) found

-- the one at place k, and none past the last
abbrev pub IsLowerNeighbourAt : Map → SideName → Rank → ℕ → Option (Rank × Rank) → Type 0
IsLowerNeighbourAt m side s k result = (found : List (Rank × Rank)) × AreLowerNeighbours m side s found × (result ≡ slice_get found k)
