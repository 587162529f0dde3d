-- What two maps show of a tile and of the positions beside it.
use Rattle.std.specs.Prelude.{◌≡◌, ℕ}
use Rattle.hd_map.specs.declared.types.Pos.{Pos}
use Rattle.hd_map.specs.Map.{Map, InGrid, height_at}
use Rattle.hd_tiles.specs.Tile.{IsRound}

-- two maps of one size and one setting show the same heights in the tile and beside it
pub record ShowSame (m n : Map) (t tile : ℕ) : Type 0 where
  pub size : m.size ≡ n.size
  pub adjacency : m.adjacency ≡ n.adjacency
  pub heights : (p : Pos) → InGrid m.size p → IsRound m.size t tile p → height_at m p ≡ height_at n p
