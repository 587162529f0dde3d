-- The ranks of points, and their order on each side.
use Rattle.std.specs.Prelude.{◌≡◌, ◌&&◌, ◌||◌, Bool, nat_lt, int_lt}
use Rattle.std.specs.Ordering.{int_eq}
use Rattle.hd_map.specs.declared.types.Pos.{Pos}
use Rattle.hd_map.specs.declared.types.Rank.{Rank}
use Rattle.hd_map.specs.declared.types.SideName.{SideName}
use Rattle.hd_map.specs.declared.types.SideName.TheVariants.{Dales, Hills}
use Rattle.hd_map.specs.Map.{Map, Present, cell_at, height_or_zero, place_of}
use Rattle.hd_map.specs.Neighbour.{Neighbour}

-- the rank of a present point: its height and its index
abbrev pub rank : Map → Pos → Rank
rank m p = record { height = height_or_zero (cell_at m p); index = place_of m.size p }

-- by height, and then by index
abbrev pub comes_before : Rank → Rank → Bool
comes_before a b = int_lt a.height b.height || (int_eq a.height b.height && nat_lt a.index b.index)

-- whether a is below b on the side: in that order for dales, in the reversed one for hills
abbrev pub below_by : SideName → Rank → Rank → Bool
below_by Dales a b = comes_before a b
below_by Hills a b = comes_before b a

-- the rank of a present point of the map
pub record IsPoint (m : Map) (r : Rank) : Type 0 where
  pub at : Pos
  pub present : Present m at
  pub rank_is : r ≡ rank m at

-- the ranks of two neighbours
pub record Near (m : Map) (a b : Rank) : Type 0 where
  pub from : Pos
  pub to : Pos
  pub neighbour : Neighbour m from to
  pub from_rank : a ≡ rank m from
  pub to_rank : b ≡ rank m to
