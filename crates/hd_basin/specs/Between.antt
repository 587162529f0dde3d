-- The passes between local basins, as those between the regions in which the basins lie.
use Rattle.std.specs.Prelude.{◌≡◌, ◌≢◌, ◌++◌, ◌∷◌, ◌⊎◌, [], ℕ, List, All, Contains, Some, map, nat_eq, slice_get, true, if◌then◌else◌}
use Rattle.std.specs.List.{flat_map}
use Rattle.hd_map.specs.declared.types.Link.{Link}
use Rattle.hd_map.specs.declared.types.Pass.{Pass}
use Rattle.hd_map.specs.declared.types.Rank.{Rank}
use Rattle.hd_map.specs.declared.types.SideName.{SideName}
use Rattle.hd_map.specs.Map.{Map, IsMap}
use Rattle.hd_map.specs.Region.{IsRoot}
use Rattle.hd_steep.specs.Crossings.{HasPits, IsNumberOf, passes_of}
use Rattle.hd_steep.specs.Passes.{pass_between}
use Rattle.hd_basin.specs.declared.node.Node.{Node}
use Rattle.hd_basin.specs.declared.part.Part.{Part}
use Rattle.hd_basin.specs.declared.part.Seam.{Seam}
use Rattle.hd_basin.specs.Graph.{in_order, pass_of, was_seen_with}
use Rattle.hd_basin.specs.InStep.{IsPoolOf}
use Rattle.hd_basin.specs.Parts.{HasNode, Pool, inner_passes}

-- the pass q leads at the same point between the different roots of the ends of p
pub record IsBetweenRoots (m : Map) (side : SideName) (p q : Pass) : Type 0 where
  pub a : Rank
  pub b : Rank
  pub from : IsRoot m side p.a a
  pub to : IsRoot m side p.b b
  pub apart : a ≢ b
  pub is : q ≡ pass_between side a b p.at

-- the ends of the pass have one root
pub record HasOneRoot (m : Map) (side : SideName) (p : Pass) : Type 0 where
  pub root : Rank
  pub from : IsRoot m side p.a root
  pub to : IsRoot m side p.b root

-- one more pass is put at the roots of its ends, or left out where these are one
abbrev pub AddsBetweenRoots : Map → SideName → Pass → List Pass → List Pass → Type 0
AddsBetweenRoots m side p old new = ((q : Pass) × IsBetweenRoots m side p q × (new ≡ old ++ q ∷ []))
    ⊎ (HasOneRoot m side p × (new ≡ old))

-- the passes, put at the roots of their ends, without those whose ends have one root
pub record AreBetweenRoots (m : Map) (side : SideName) (passes between : List Pass) : Type 0 where
  pub each : (q : Pass) → Contains between q
      → (p : Pass) × Contains passes p × IsBetweenRoots m side p q
  pub all : (p : Pass) → Contains passes p
      → ((q : Pass) × Contains between q × IsBetweenRoots m side p q) ⊎ HasOneRoot m side p

-- the link of two pits by their numbers, and none of a pit with itself
abbrev pub link_between : ℕ → ℕ → Rank → List Link
link_between a b at = if nat_eq a b then [] else (record { a = a; b = b; at = at } ∷ [])

-- the point lies in the region of the pit of this number, in each map that the pool is that of
abbrev pub LiesIn : SideName → Pool → List Rank → Rank → ℕ → Type 0
LiesIn side pool pits x number = (m : Map) → IsMap m → IsPoolOf m side pool
    → IsNumberOf m side pits x number

-- the passes between basins are put, as links, at the pits of their ends
pub record AddsLinks (side : SideName) (pool : Pool) (pits : List Rank) (passes : List Pass)
    (old new : List Link) : Type 0 where
  pub ends : All (HasPits pits) old → All (HasPits pits) new
  pub between : (m : Map) → IsMap m → IsPoolOf m side pool → (before : List Pass)
      → AreBetweenRoots m side before (passes_of side pits old)
      → AreBetweenRoots m side (before ++ passes) (passes_of side pits new)

-- those within a tile
abbrev pub AddsInside : SideName → Pool → List Rank → ℕ → List Link → List Link → Type 0
AddsInside side pool pits tile old new = (part : Part) → slice_get pool.parts tile ≡ Some part
    → AddsLinks side pool pits (map (in_order side) (inner_passes part)) old new

-- those of its seams that are not void
abbrev pub AddsAcross : SideName → Pool → List Rank → ℕ → List Link → List Link → Type 0
AddsAcross side pool pits tile old new = (part : Part) → slice_get pool.parts tile ≡ Some part
    → AddsLinks side pool pits (flat_map (pass_of side pool.parts) part.seams) old new

-- the sink of a node
abbrev pub IsNodeLow : List Part → Rank → Type 0
IsNodeLow parts low = (tile : ℕ) × (n : Node) × HasNode parts tile n × (n.low ≡ low)

-- a seam that is not void is between two nodes
abbrev pub EndInNodes : List Part → Seam → Type 0
EndInNodes parts seam = was_seen_with (slice_get parts seam.with) seam.stamp ≡ true
    → IsNodeLow parts seam.pass.a × IsNodeLow parts seam.pass.b
