-- The test for edge points, and their heights.
use Rattle.std.specs.Prelude.{◌≡◌, ◌&&◌, ◌||◌, ◌==◌, ◌+◌, ◌-◌, ℕ, ℤ, Bool, not, List, [], ◌∷◌, Option, None, slice_index_or, if◌then◌else◌}
use Rattle.std.specs.List.{filter_map, list_any}
use Rattle.std.specs.Option.{is_some}
use Rattle.hd_map.specs.declared.types.Pos.{Pos}
use Rattle.hd_map.specs.declared.types.Size.{Size}
use Rattle.hd_map.specs.Map.{InGrid, Map, height_at, in_grid, place_of, position_at}

-- whether a point is present at the position
abbrev pub is_here : Map → Pos → Bool
is_here m p = in_grid m.size p && is_some (height_at m p)

-- whether the position is on the border of the grid
abbrev pub is_border : Size → Pos → Bool
is_border s p = p.x == 0 || p.y == 0 || p.x + 1 == s.points || p.y + 1 == s.profiles

abbrev pub at : ℕ → ℕ → Pos
at x y = record { x = x; y = y }

-- the eight positions beside one that is not on the border
abbrev pub beside : Pos → List Pos
beside p = at (p.x - 1) (p.y - 1) ∷ at p.x (p.y - 1) ∷ at (p.x + 1) (p.y - 1) ∷ at (p.x - 1) p.y ∷ at (p.x + 1) p.y
    ∷ at (p.x - 1) (p.y + 1) ∷ at p.x (p.y + 1) ∷ at (p.x + 1) (p.y + 1) ∷ []

-- whether a present point is an edge point: it is on the border, or no point is present at a position beside it
abbrev pub is_edge : Map → Pos → Bool
is_edge m p = is_border m.size p || list_any (λ q. not (is_here m q)) (beside p)

-- the height of an edge point, and none of any other position
abbrev pub edge_height : Map → Pos → Option ℤ
edge_height m p = if is_edge m p then height_at m p else None

-- the heights of the edge points among the points of these indexes
abbrev pub edge_heights : Map → List ℕ → List ℤ
edge_heights m points = filter_map (λ k. edge_height m (position_at m.size k)) points

-- exactly the present points have roots
abbrev pub HaveRoots : Map → List (Option ℕ) → Type 0
HaveRoots m roots = (p : Pos) → InGrid m.size p → is_some (slice_index_or roots (place_of m.size p) None) ≡ is_some (height_at m p)
