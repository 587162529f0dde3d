-- The shown path and the shown cut by positions: routes.
use Rattle.std.specs.Prelude.{◌≡◌, ◌<◌, ◌≤◌, ◌+◌, ◌-◌, ◌↔◌, ℕ, true, List, [], length, map, Option, MatchOption}
use Rattle.std.specs.List.{Contains}
use Rattle.hd_map.specs.declared.types.Pos.{Pos}
use Rattle.hd_map.specs.declared.types.Rank.{Rank}
use Rattle.hd_map.specs.declared.types.SideName.{SideName}
use Rattle.hd_map.specs.Map.{Map, place_of}
use Rattle.hd_map.specs.Neighbour.{Neighbour}
use Rattle.hd_map.specs.Path.{IsTop}
use Rattle.hd_map.specs.Rank.{rank, below_by}
use Rattle.hd_check.specs.declared.types.Certificate.{Certificate}
use Rattle.hd_map.specs.Shown.{IsNotAfter}
use Rattle.hd_reach.specs.Reached.{IsReachedLow}
use Rattle.hd_reach.specs.Within.{LiesWithin}
use Rattle.hd_cert.specs.Shown.{IsWritten}
use Rattle.hd_check.specs.Rules.{point_of}

-- a path of positions from a to b whose top is s
pub record IsRouteOver (m : Map) (side : SideName) (a b : Pos) (s : Rank) (path : List Pos) : Type 0 where
  pub some : 1 ≤ length path
  pub begins : point_of path 0 ≡ a
  pub ends : point_of path (length path - 1) ≡ b
  pub steps : (k : ℕ) → k < length path - 1 → Neighbour m (point_of path k) (point_of path (k + 1))
  pub top : IsTop (below_by side) s (map (rank m) path)

-- of the paths from a to b whose top is s one with the fewest points, and of these the first by its indexes
pub record IsShownRoute (m : Map) (side : SideName) (a b : Pos) (s : Rank) (path : List Pos) : Type 0 where
  pub over : IsRouteOver m side a b s path
  pub fewest : (other : List Pos) → IsRouteOver m side a b s other → length path ≤ length other
  pub first : (other : List Pos) → IsRouteOver m side a b s other → length other ≡ length path → IsNotAfter (map (place_of m.size) path) (map (place_of m.size) other)

-- the points that are reached from a below the saddle, in position order
pub record IsRouteCut (m : Map) (side : SideName) (saddle : Option Rank) (a : Pos) (cut : List Pos) : Type 0 where
  pub rises : (k : ℕ) → k < length cut - 1 → place_of m.size (point_of cut k) < place_of m.size (point_of cut (k + 1))
  pub low : LiesWithin m side saddle true a
  pub all : (p : Pos) → Contains cut p ↔ IsReachedLow m side saddle a p

-- the certificate shown for a and b, whose saddle this is
pub record IsMade (m : Map) (side : SideName) (a b : Pos) (saddle : Option Rank) (c : Certificate) : Type 0 where
  pub side_is : c.side ≡ side
  pub setting_is : c.adjacency ≡ m.adjacency
  pub from_is : c.from ≡ a
  pub to_is : c.to ≡ b
  pub saddle_is : IsWritten m saddle c.saddle
  pub path : MatchOption saddle (c.path ≡ []) (λ s. IsShownRoute m side a b s c.path)
  pub cut : IsRouteCut m side saddle a c.cut
