-- The first links of points by index: each to the lowest of the point and its neighbours.
use Rattle.std.specs.Prelude.{◌≡◌, ◌⊎◌, ◌<◌, ◌+◌, ℕ, List, length, slice_index}
use Rattle.hd_map.specs.declared.types.Rank.{Rank}
use Rattle.hd_map.specs.declared.types.SideName.{SideName}
use Rattle.hd_map.specs.Map.{Map, cell_count}
use Rattle.hd_map.specs.Rank.{IsPoint}
use Rattle.hd_map.specs.Region.{IsNext, IsPit}
use Rattle.hd_steep.specs.Links.{no_link, NoPointAt}

-- q is the next of p, or p itself where that is a pit
abbrev pub IsFirst : Map → SideName → Rank → Rank → Type 0
IsFirst m side p q = IsNext m side p q ⊎ ((q ≡ p) × IsPit m side p)

-- k is the index of the point that comes first from p
pub record LeadsFirst (m : Map) (side : SideName) (p : Rank) (k : ℕ) : Type 0 where
  pub to : Rank
  pub first : IsFirst m side p to
  pub index_is : k ≡ to.index

-- the link of the point with this index leads to the one that comes first from it; where no point has it, there is no link
pub record IsFirstLink (m : Map) (side : SideName) (k link : ℕ) : Type 0 where
  pub point : (p : Rank) → IsPoint m p → p.index ≡ k → LeadsFirst m side p link
  pub none : NoPointAt m k → link ≡ no_link

-- the first links of the indexes from one on
abbrev pub AreFirstLinksFrom : Map → SideName → ℕ → List ℕ → Type 0
AreFirstLinksFrom m side first links = (k : ℕ) → k < length links → IsFirstLink m side (first + k) (slice_index links k)

-- the first links of all indexes of the map
pub record AreFirstLinks (m : Map) (side : SideName) (links : List ℕ) : Type 0 where
  pub whole : length links ≡ cell_count m.size
  pub each : (k : ℕ) → k < length links → IsFirstLink m side k (slice_index links k)
