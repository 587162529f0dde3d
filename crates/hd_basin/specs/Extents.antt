-- The regions of pits, gathered basin by basin.
use Rattle.std.specs.Prelude.{◌≡◌, ◌+◌, ℕ, ℤ, List, length, Option, Some, None, Contains, slice_get, slice_index_or, slice_set}
use Rattle.hd_map.specs.declared.types.Rank.{Rank}
use Rattle.hd_map.specs.declared.types.SideName.{SideName}
use Rattle.hd_map.specs.Map.{Map}
use Rattle.hd_map.specs.Region.{IsRoot}
use Rattle.hd_basin.specs.declared.extent.Extent.{Extent}
use Rattle.hd_basin.specs.declared.node.Node.{Node}
use Rattle.hd_basin.specs.declared.part.Part.{Part}
use Rattle.hd_basin.specs.Adding.{IsGreater, IsLesser}
use Rattle.hd_basin.specs.Basin.{IsSinkOf}
use Rattle.hd_map.specs.EdgePoint.{IsEdge}
use Rattle.hd_map.specs.Sums.{AreSums}

-- the nodes of a tile
abbrev pub nodes_in : Part → List Node
nodes_in part = part.nodes

-- an extreme of two sets together, from that of each, where one has members
abbrev pub IsOfBoth : (ℤ → ℤ → ℤ → Type 0) → Option ℤ → Option ℤ → Option ℤ → Type 0
IsOfBoth Is None b c = c ≡ b
IsOfBoth Is (Some a) None c = c ≡ Some a
IsOfBoth Is (Some a) (Some b) None = ⊥
IsOfBoth Is (Some a) (Some b) (Some c) = Is a b c

-- an extent with the basin of a node more
pub record JoinsBasin (old : Extent) (n : Node) (new : Extent) : Type 0 where
  pub pit : new.pit ≡ old.pit
  pub points : new.points ≡ old.points + n.points
  pub high : IsGreater old.high n.high new.high
  pub least : IsLesser old.least n.least new.least
  pub edge_low : IsOfBoth IsLesser old.edge_low n.edge_low new.edge_low
  pub edge_high : IsOfBoth IsGreater old.edge_high n.edge_high new.edge_high

-- the extent of one basin
abbrev pub extent_of : Rank → Node → Extent
extent_of pit n = record { pit = pit; points = n.points; high = n.high; least = n.least; edge_low = n.edge_low; edge_high = n.edge_high }

-- what is known of a pit's region with the basin of a node more
abbrev pub IsExtentWith : Option Extent → Rank → Node → Extent → Type 0
IsExtentWith None pit n new = new ≡ extent_of pit n
IsExtentWith (Some old) pit n new = JoinsBasin old n new

-- the basin of a node is added to the region of the pit of this number
pub record AddsBasin (old new : List (Option Extent)) (number : ℕ) (pit : Rank) (n : Node)
    : Type 0 where
  pub extent : Extent
  pub with : IsExtentWith (slice_index_or old number None) pit n extent
  pub is : new ≡ slice_set old number (Some extent)

-- a point lies in one of the basins of these nodes, whose root is the pit
pub record InBasins (m : Map) (side : SideName) (t : ℕ) (nodes : List Node) (pit p : Rank) : Type 0 where
  pub node : Node
  pub among : Contains nodes node
  pub root : IsRoot m side node.low pit
  pub sink : IsSinkOf m side t p node.low

-- the extent of these basins in the region of the pit, and none where no basin lies in it
abbrev pub IsGathered : Map → SideName → ℕ → List Node → Rank → Option Extent → Type 0
IsGathered m side t nodes pit None = (n : Node) → Contains nodes n → IsRoot m side n.low pit → ⊥
IsGathered m side t nodes pit (Some e) = (e.pit ≡ pit)
    × AreSums (InBasins m side t nodes pit) (IsEdge m) e.points e.high e.least e.edge_low e.edge_high

-- by the numbers of the pits, what these basins sum up to
pub record AreGathered (m : Map) (side : SideName) (t : ℕ) (pits : List Rank) (nodes : List Node)
    (extents : List (Option Extent)) : Type 0 where
  pub whole : length extents ≡ length pits
  pub each : (number : ℕ) (pit : Rank) → slice_get pits number ≡ Some pit
      → IsGathered m side t nodes pit (slice_index_or extents number None)
