-- Crossings by the numbers of their regions.
use Rattle.std.specs.Prelude.{◌≡◌, ◌<◌, ℕ, List, [], All, length, map, pos, slice_index_or}
use Rattle.hd_map.specs.declared.types.Link.{Link}
use Rattle.hd_map.specs.declared.types.Pass.{Pass}
use Rattle.hd_map.specs.declared.types.Pos.{Pos}
use Rattle.hd_map.specs.declared.types.Rank.{Rank}
use Rattle.hd_map.specs.declared.types.SideName.{SideName}
use Rattle.hd_map.specs.Map.{Map, position_at}
use Rattle.hd_map.specs.Rank.{rank, IsPoint}
use Rattle.hd_map.specs.Region.{IsRoot}
use Rattle.hd_steep.specs.declared.descent.Descent.{Descent}
use Rattle.hd_steep.specs.Crossed.{Gathers}
use Rattle.hd_steep.specs.Passes.{pass_between}

-- the pit of a number
abbrev pub pit_at : List Rank → ℕ → Rank
pit_at pits n = slice_index_or pits n (record { height = pos 0; index = 0 })

-- the pass of a crossing, the lower pit first
abbrev pub pass_of : SideName → List Rank → Link → Pass
pass_of side pits x = pass_between side (pit_at pits x.a) (pit_at pits x.b) x.at

-- the passes of crossings
abbrev pub passes_of : SideName → List Rank → List Link → List Pass
passes_of side pits xs = map (pass_of side pits) xs

-- its numbers are those of pits
abbrev pub HasPits : List Rank → Link → Type 0
HasPits pits x = (x.a < length pits) × (x.b < length pits)

-- it is the number of the pit in whose region the point lies
pub record IsNumberOf (m : Map) (side : SideName) (pits : List Rank) (x : Rank) (n : ℕ) : Type 0 where
  pub inside : n < length pits
  pub root : IsRoot m side x (pit_at pits n)

module _ (m : Map) (side : SideName) (pit_ranks : List Rank) where
  -- a point has this index, and n is the number of the pit in whose region it lies
  pub record IsNumberAt (k n : ℕ) : Type 0 where
    pub at : Rank
    pub point : IsPoint m at
    pub index_is : k ≡ at.index
    pub number : IsNumberOf m side pit_ranks at n

  -- it names the regions of both ends of the descent, and stands at the higher one
  pub record IsCrossingAlong (d : Descent) (x : Link) : Type 0 where
    pub from : IsNumberAt d.from x.a
    pub to : IsNumberAt d.to x.b
    pub at_is : x.at ≡ rank m (position_at m.size d.from)

  -- crossings that serve the lower neighbours of the chosen points
  pub record AreCrossingsAt (Chosen : Pos → Type 0) (xs : List Link) : Type 0 where
    pub gathers : Gathers m side Chosen [] (passes_of side pit_ranks xs)
    pub pits : All (HasPits pit_ranks) xs
