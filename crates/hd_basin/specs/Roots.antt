-- In the region of which pit the basin of each node of a pool lies, by the numbers of the pits.
use Rattle.std.specs.Prelude.{◌≡◌, ◌<◌, ℕ, List, Some, length, take, slice_get, slice_index}
use Rattle.std.specs.List.{flat_map}
use Rattle.hd_map.specs.declared.types.Rank.{Rank}
use Rattle.hd_map.specs.declared.types.SideName.{SideName}
use Rattle.hd_map.specs.Map.{Map, IsMap}
use Rattle.hd_map.specs.Pruning.{ArePits}
use Rattle.hd_steep.specs.Crossings.{IsNumberOf}
use Rattle.hd_basin.specs.declared.node.Node.{Node}
use Rattle.hd_basin.specs.declared.part.Part.{Part}
use Rattle.hd_basin.specs.Extents.{nodes_in}
use Rattle.hd_basin.specs.InStep.{IsPoolOf}
use Rattle.hd_basin.specs.Parts.{Pool}

-- the pits; by tile the place of its first node; by place of a node the number of the pit in whose region
-- its basin lies
pub record Rooted : Type 0 where
  pub pits : List Rank
  pub firsts : List ℕ
  pub numbers : List ℕ

-- the nodes of all tiles, tile by tile, which gives each node its place
abbrev pub all_nodes : List Part → List Node
all_nodes parts = flat_map nodes_in parts

-- how many nodes the tiles before one have
abbrev pub nodes_before : List Part → ℕ → ℕ
nodes_before parts tile = length (all_nodes (take tile parts))

-- by tile the place of its first node
pub record AreFirsts (parts : List Part) (firsts : List ℕ) : Type 0 where
  pub whole : length firsts ≡ length parts
  pub each : (tile : ℕ) → tile < length parts → slice_index firsts tile ≡ nodes_before parts tile

-- the basin of the node lies in the region of the pit of this number, in each map of which the pool is
abbrev pub IsPitNumber : SideName → Pool → List Rank → Node → ℕ → Type 0
IsPitNumber side pool pits n number = (m : Map) → IsMap m → IsPoolOf m side pool
    → IsNumberOf m side pits n.low number

-- the pits in position order, and for each node the number of its pit
pub record AreRoots (side : SideName) (pool : Pool) (roots : Rooted) : Type 0 where
  pub firsts : AreFirsts pool.parts roots.firsts
  pub whole : length roots.numbers ≡ length (all_nodes pool.parts)
  pub pits : (m : Map) → IsMap m → IsPoolOf m side pool → ArePits m side roots.pits
  pub numbers : (place : ℕ) (n : Node) → slice_get (all_nodes pool.parts) place ≡ Some n
      → IsPitNumber side pool roots.pits n (slice_index roots.numbers place)
