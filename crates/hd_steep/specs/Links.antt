-- Links by index, along which each point leads to its root.
use Rattle.std.specs.Prelude.{◌≡◌, ◌↔◌, ◌<◌, ℕ, true, List, length, slice_index}
use Rattle.hd_map.specs.declared.types.Rank.{Rank}
use Rattle.hd_map.specs.declared.types.SideName.{SideName}
use Rattle.hd_map.specs.Map.{Map, cell_count}
use Rattle.hd_map.specs.Rank.{below_by, IsPoint}
use Rattle.hd_map.specs.Region.{IsPit, IsRoot}

-- stands where there is no link; it is above each index
abbrev pub no_link : ℕ
no_link = 4294967295

-- q lies on the way from p to its root, and is p itself exactly if p is a pit
pub record IsOnward (m : Map) (side : SideName) (p q : Rank) : Type 0 where
  pub point : IsPoint m q
  pub same_root : (r : Rank) → IsRoot m side p r ↔ IsRoot m side q r
  pub below : (q ≡ p → ⊥) → below_by side q p ≡ true
  pub stays : q ≡ p ↔ IsPit m side p

-- k is the index of a point that is onward from p
pub record LeadsOnward (m : Map) (side : SideName) (p : Rank) (k : ℕ) : Type 0 where
  pub to : Rank
  pub onward : IsOnward m side p to
  pub index_is : k ≡ to.index

-- no point has this index
abbrev pub NoPointAt : Map → ℕ → Type 0
NoPointAt m k = (p : Rank) → IsPoint m p → p.index ≡ k → ⊥

-- a point has this index
pub record HasPointAt (m : Map) (k : ℕ) : Type 0 where
  pub at : Rank
  pub point : IsPoint m at
  pub index_is : k ≡ at.index

-- the link of the point with this index leads onward; where no point has it, there is no link
pub record IsLinkOf (m : Map) (side : SideName) (k link : ℕ) : Type 0 where
  pub point : (p : Rank) → IsPoint m p → p.index ≡ k → LeadsOnward m side p link
  pub none : NoPointAt m k → link ≡ no_link

-- the links of all indexes of the map
pub record AreLinks (m : Map) (side : SideName) (links : List ℕ) : Type 0 where
  pub whole : length links ≡ cell_count m.size
  pub each : (k : ℕ) → k < length links → IsLinkOf m side k (slice_index links k)

-- k is the index of a point, and root that of its root
pub record IsRootAt (m : Map) (side : SideName) (k root : ℕ) : Type 0 where
  pub at : Rank
  pub point : IsPoint m at
  pub index_is : k ≡ at.index
  pub to : Rank
  pub is_root : IsRoot m side at to
  pub root_is : root ≡ to.index
