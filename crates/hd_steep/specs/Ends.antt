-- Links by index that lead to ends. Past the links of the points stand those of the ends: one for each pit in position
-- order, and a last one for where no point is present. Each end leads to itself.
use Rattle.std.specs.Prelude.{◌≡◌, ◌≢◌, ◌⊎◌, ◌<◌, ◌≤◌, ◌+◌, ℕ, List, length, slice_index}
use Rattle.hd_map.specs.declared.types.Rank.{Rank}
use Rattle.hd_map.specs.declared.types.SideName.{SideName}
use Rattle.hd_map.specs.Map.{Map, cell_count}
use Rattle.hd_map.specs.Rank.{IsPoint}
use Rattle.hd_steep.specs.Links.{no_link, IsOnward}
use Rattle.hd_steep.specs.Numbering.{IsLabelOf, root_of}

-- where there was no link, one leads to the last end, and the others stay
pub record AreToLast (last : ℕ) (old new : List ℕ) : Type 0 where
  pub whole : length new ≡ length old
  pub absent : (k : ℕ) → k < length old → slice_index old k ≡ no_link → slice_index new k ≡ last
  pub others : (k : ℕ) → slice_index old k ≢ no_link → slice_index new k ≡ slice_index old k

-- links to themselves were added, up to the last one
pub record HasEnds (last : ℕ) (old new : List ℕ) : Type 0 where
  pub whole : length new ≡ last + 1
  pub kept : (k : ℕ) → k < length old → slice_index new k ≡ slice_index old k
  pub ends : (k : ℕ) → length old ≤ k → k < length new → slice_index new k ≡ k

module _ (m : Map) where
  -- the links of all points lead to ends
  abbrev pub AreLed : List ℕ → Type 0
  AreLed links = (k : ℕ) → k < cell_count m.size → cell_count m.size ≤ slice_index links k

  -- what led to an end still does
  abbrev pub KeepEnds : List ℕ → List ℕ → Type 0
  KeepEnds old new = (k : ℕ) → cell_count m.size ≤ slice_index old k → cell_count m.size ≤ slice_index new k

  module _ (side : SideName) where
    -- the link leads from the point of this index to one that is below it on the way to its root
    pub record LeadsBelow (k link : ℕ) : Type 0 where
      pub from : Rank
      pub point : IsPoint m from
      pub index_is : k ≡ from.index
      pub to : Rank
      pub onward : IsOnward m side from to
      pub apart : to ≡ from → ⊥
      pub link_is : link ≡ to.index

    module _ (pits : List Rank) where
      -- the link leads to the end of the pit in whose region the point of this index lies, and past those of all pits where no point has the index
      pub record LeadsToEnd (k link : ℕ) : Type 0 where
        pub number : ℕ
        pub link_is : link ≡ cell_count m.size + number
        pub label : IsLabelOf m side k (root_of pits number)

      -- the links of all points and ends
      pub record AreEndLinks (links : List ℕ) : Type 0 where
        pub whole : length links ≡ cell_count m.size + (length pits + 1)
        pub inside : (k : ℕ) → k < length links → slice_index links k < length links
        pub points : (k : ℕ) → k < cell_count m.size → LeadsToEnd k (slice_index links k) ⊎ LeadsBelow k (slice_index links k)
        pub ends : (k : ℕ) → cell_count m.size ≤ k → k < length links → slice_index links k ≡ k

      -- the links of the points alone, which all lead to ends
      pub record AreEnds (links : List ℕ) : Type 0 where
        pub whole : length links ≡ cell_count m.size
        pub each : (k : ℕ) → k < length links → LeadsToEnd k (slice_index links k)
