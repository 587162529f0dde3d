-- The tiles of a grid, numbered by rows.
use Rattle.std.specs.Prelude.{◌≡◌, ◌≤◌, ◌+◌, ◌-◌, ◌*◌, ◌/◌, ℕ}
use Rattle.hd_map.specs.declared.types.Pos.{Pos}
use Rattle.hd_map.specs.declared.types.Size.{Size}
use Rattle.hd_map.specs.Map.{Map, InGrid, cell_at, mask_at}
use Rattle.hd_map.specs.Neighbour.{IsNear}

-- the sides that tiles may have, in points
pub record IsTileSide (t : ℕ) : Type 0 where
  pub least : 8 ≤ t
  pub greatest : t ≤ 256

-- the number by which a place below 2 ^ 16 is divided by the side t: multiplied with it and divided by 2 ^ 25, the place
-- is the one divided by t
unfoldable pub inverse_of : ℕ → ℕ
inverse_of t = (33554432 + t - 1) / t

-- how many tiles of this side lie along so many points. The last of them may be cut
abbrev pub tiles_along : ℕ → ℕ → ℕ
tiles_along points t = (points + t - 1) / t

-- how many tiles a row of tiles has
abbrev pub tiles_across : Size → ℕ → ℕ
tiles_across s t = tiles_along s.points t

-- how many tiles a grid has
abbrev pub tile_count : Size → ℕ → ℕ
tile_count s t = tiles_along s.profiles t * tiles_across s t

-- the number of the tile that holds a position
abbrev pub tile_of : Size → ℕ → Pos → ℕ
tile_of s t p = p.y / t * tiles_across s t + p.x / t

-- the tile holds the position, or one of the eight positions round it: the position lies in the tile or beside it
pub record IsRound (s : Size) (t tile : ℕ) (p : Pos) : Type 0 where
  pub from : Pos
  pub in_grid : InGrid s from
  pub in_tile : tile_of s t from ≡ tile
  pub columns : IsNear from.x p.x
  pub rows : IsNear from.y p.y

-- two maps of one size have the same setting, and the same cells and masks in the tile and beside it
pub record Agree (m n : Map) (t tile : ℕ) : Type 0 where
  pub size : m.size ≡ n.size
  pub adjacency : m.adjacency ≡ n.adjacency
  pub cells : (p : Pos) → InGrid m.size p → IsRound m.size t tile p → cell_at m p ≡ cell_at n p
  pub masks : (p : Pos) → InGrid m.size p → IsRound m.size t tile p → mask_at m p ≡ mask_at n p
