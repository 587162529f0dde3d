-- The lowest of the points at some positions of a map. Places and profiles are counted from 1, so that those with the
-- number 0 are empty.
use Rattle.std.specs.Prelude.{◌≡◌, ◌⊎◌, ◌+◌, ℕ, pos, negsuc, Bool, if◌then◌else◌}
use Rattle.hd_map.specs.declared.types.Adjacency.{Adjacency}
use Rattle.hd_map.specs.declared.types.Pos.{Pos}
use Rattle.hd_map.specs.declared.types.Rank.{Rank}
use Rattle.hd_map.specs.declared.types.SideName.{SideName}
use Rattle.hd_map.specs.declared.types.SideName.TheVariants.{Dales, Hills}
use Rattle.hd_map.specs.Map.{Map, Present}
use Rattle.hd_map.specs.Neighbour.{IsNear, AreBesideUnder}
use Rattle.hd_map.specs.Order.{IsNotAbove}
use Rattle.hd_map.specs.Rank.{rank, below_by}

-- stands where no point is present; it is above each point
abbrev pub missing : SideName → Rank
missing Dales = record { height = pos 9223372036854775807; index = 4294967295 }
missing Hills = record { height = negsuc 9223372036854775807; index = 4294967295 }

-- whether a rank is below another one of a lesser index
abbrev pub later_below : SideName → Rank → Rank → Bool
later_below side later earlier = below_by side (record { height = later.height; index = 1 }) (record { height = earlier.height; index = 0 })

-- whether a rank is below another one of a greater index
abbrev pub earlier_below : SideName → Rank → Rank → Bool
earlier_below side earlier later = below_by side (record { height = earlier.height; index = 0 }) (record { height = later.height; index = 1 })

-- the lower of two ranks, of which the second has the greater index
abbrev pub lower_of : SideName → Rank → Rank → Rank
lower_of side a b = if later_below side b a then b else a

-- the rank of the point at a chosen position
pub record IsChosen (m : Map) (Chosen : Pos → Type 0) (low : Rank) : Type 0 where
  pub at : Pos
  pub chosen : Chosen at
  pub present : Present m at
  pub low_is : low ≡ rank m at

-- low is the rank of a chosen point and none of them is below it; where none is present, low is missing
pub record IsLow (m : Map) (side : SideName) (Chosen : Pos → Type 0) (low : Rank) : Type 0 where
  pub origin : (low ≡ missing side) ⊎ IsChosen m Chosen low
  pub least : (q : Pos) → Chosen q → Present m q → IsNotAbove (below_by side) low (rank m q)

-- the position of this profile at this place
pub record IsAtPlace (y k : ℕ) (q : Pos) : Type 0 where
  pub profile : q.y + 1 ≡ y
  pub place : q.x + 1 ≡ k

-- the position is another one near p, which is beside it under the setting
pub record IsPlaceBeside (adjacency : Adjacency) (p near q : Pos) : Type 0 where
  pub place : q ≡ near
  pub beside : AreBesideUnder adjacency p q

-- q is p, or one of the positions round it that are beside it under the setting
pub record IsRound (adjacency : Adjacency) (p q : Pos) : Type 0 where
  pub column : IsNear p.x q.x
  pub profile : IsNear p.y q.y
  pub beside : AreBesideUnder adjacency p q

-- of these, those of a profile
pub record IsRoundIn (adjacency : Adjacency) (p : Pos) (y : ℕ) (q : Pos) : Type 0 where
  pub profile : q.y + 1 ≡ y
  pub round : IsRound adjacency p q
