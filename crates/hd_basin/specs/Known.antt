-- The numbers of the pits, of some nodes so far.
use Rattle.std.specs.Prelude.{◌≡◌, ◌≢◌, ◌<◌, ◌⊎◌, ℕ, List, Contains, Some, None, length, slice_get, slice_index}
use Rattle.hd_map.specs.declared.types.Pos.{Pos}
use Rattle.hd_map.specs.declared.types.Rank.{Rank}
use Rattle.hd_map.specs.declared.types.SideName.{SideName}
use Rattle.hd_map.specs.Map.{Map, IsMap}
use Rattle.hd_map.specs.Pruning.{ArePits}
use Rattle.hd_basin.specs.declared.node.Node.{Node}
use Rattle.hd_basin.specs.declared.spot.Spot.{Spot}
use Rattle.hd_basin.specs.InStep.{IsPoolOf}
use Rattle.hd_basin.specs.Parts.{Pool, node_of}
use Rattle.hd_basin.specs.Placed.{unknown}
use Rattle.hd_basin.specs.Roots.{AreFirsts, IsPitNumber, Rooted, all_nodes}
use Rattle.hd_basin.specs.Spots.{IsSpot, node_named}

-- the pits, and the number of its pit for each node of which it is known: each that is a pit is one
pub record AreKnown (side : SideName) (pool : Pool) (roots : Rooted) : Type 0 where
  pub firsts : AreFirsts pool.parts roots.firsts
  pub whole : length roots.numbers ≡ length (all_nodes pool.parts)
  pub pits : (m : Map) → IsMap m → IsPoolOf m side pool → ArePits m side roots.pits
  pub each : (place : ℕ) (n : Node) → slice_get (all_nodes pool.parts) place ≡ Some n
      → slice_index roots.numbers place ≢ unknown
      → IsPitNumber side pool roots.pits n (slice_index roots.numbers place)
  pub ends : (place : ℕ) (n : Node) → slice_get (all_nodes pool.parts) place ≡ Some n → n.flows ≡ None
      → slice_index roots.numbers place ≢ unknown

-- at the first places each number is known
abbrev pub AreKnownTo : List ℕ → ℕ → Type 0
AreKnownTo numbers k = (place : ℕ) → place < k → slice_index numbers place ≢ unknown

-- what was known before is known still
abbrev pub KeepsKnown : List ℕ → List ℕ → Type 0
KeepsKnown old new = (place : ℕ) → slice_index old place ≢ unknown → slice_index new place ≢ unknown

-- the node flows to that of the spot
pub record FlowsOn (pool : Pool) (n : Node) (next : Spot) : Type 0 where
  pub at : Pos
  pub flows : n.flows ≡ Some at
  pub spot : IsSpot pool.parts next
  pub named : node_named pool.parts next ≡ node_of pool.size pool.side pool.parts at

-- the nodes at these places have the pit of this number
abbrev pub LeadTo : SideName → Pool → List Rank → ℕ → List ℕ → Type 0
LeadTo side pool pits number places = (place : ℕ) → Contains places place
    → (n : Node) × (slice_get (all_nodes pool.parts) place ≡ Some n)
    × IsPitNumber side pool pits n number

-- the number stands at these places, and all else is as it was
pub record AreNoted (places : List ℕ) (number : ℕ) (old new : List ℕ) : Type 0 where
  pub whole : length new ≡ length old
  pub each : (place : ℕ) → Contains places place → slice_index new place ≡ number
  pub either : (place : ℕ) → Contains places place ⊎ (slice_index new place ≡ slice_index old place)
