-- A map with one cell, one mask, the heights of a profile or its setting set, and why a set is refused.
use Rattle.std.specs.Prelude.{◌≡◌, ◌≤◌, ◌+◌, ℕ, ℤ, Bool, List, map, Option, Some, None, Result, MatchResult, if◌then◌else◌, nat_eq, slice_index_or, slice_set}
use Rattle.std.specs.List.{range_with_len}
use Rattle.hd_map.specs.declared.types.Adjacency.{Adjacency}
use Rattle.hd_map.specs.declared.types.Pos.{Pos}
use Rattle.hd_map.specs.declared.types.Cell.{Cell}
use Rattle.hd_map.specs.declared.types.Cell.TheVariants.{Height}
use Rattle.hd_map.specs.declared.types.DataType.{DataType}
use Rattle.hd_map.specs.declared.types.MapError.{MapError}
use Rattle.hd_map.specs.declared.types.MapError.TheVariants.{Outside, HeightRange}
use Rattle.hd_map.specs.Map.{Map, InGrid, IsCellOf, cell_at, cell_count, place_of, position_at}

-- the map with this cell at the position
abbrev pub with_cell : Map → Pos → Cell → Map
with_cell m p cell = record m { cells = slice_set m.cells (place_of m.size p) cell }

-- the map with this mask at the position
abbrev pub with_mask : Map → Pos → Bool → Map
with_mask m p masked = record m { masks = slice_set m.masks (place_of m.size p) masked }

-- a new height, and the old cell where there is none
abbrev pub cell_with : Option ℤ → Cell → Cell
cell_with (Some z) old = Height z
cell_with None old = old

-- the cell at a position once a profile has these heights by column; where there is none, the cell stays
abbrev pub cell_with_heights : Map → ℕ → List (Option ℤ) → Pos → Cell
cell_with_heights m y heights p =
    if nat_eq p.y y then cell_with (slice_index_or heights p.x None) (cell_at m p) else cell_at m p

-- the map with these heights in a profile, by column; where there is none, the cell stays
abbrev pub with_heights : Map → ℕ → List (Option ℤ) → Map
with_heights m y heights = record m {
  cells = map (λ k. cell_with_heights m y heights (position_at m.size k)) (range_with_len 0 (cell_count m.size));
}

-- each of the heights is of the data type
abbrev pub AreHeightsIn : DataType → List (Option ℤ) → Type 0
AreHeightsIn type heights = (x : ℕ) (z : ℤ) → slice_index_or heights x None ≡ Some z → IsCellOf type (Height z)

-- the map under this setting
abbrev pub under : Adjacency → Map → Map
under adjacency m = record m { adjacency = adjacency }

-- why this cell cannot stand at the position: it is not in the grid; else the height is not of the type
abbrev pub IsCellRefusal : Map → Pos → Cell → MapError → Type 0
IsCellRefusal m p cell (Outside at) = (at ≡ p) × (InGrid m.size p → ⊥)
IsCellRefusal m p cell (HeightRange at) = (at ≡ p) × InGrid m.size p × (IsCellOf m.data_type cell → ⊥)

-- why no mask can stand at the position: it is not in the grid
abbrev pub IsMaskRefusal : Map → Pos → MapError → Type 0
IsMaskRefusal m p (Outside at) = (at ≡ p) × (InGrid m.size p → ⊥)
IsMaskRefusal m p (HeightRange at) = ⊥

-- an accepted set changes this cell and nothing else of the map, and a refused one nothing
abbrev pub SetsCell : Map → Pos → Cell → Result (Unit {0}) MapError → Map → Type 0
SetsCell old p cell result new = MatchResult result (λ _. InGrid old.size p × IsCellOf old.data_type cell × (new ≡ with_cell old p cell)) (λ error. IsCellRefusal old p cell error × (new ≡ old))

-- an accepted set changes this mask and nothing else of the map, and a refused one nothing
abbrev pub SetsMask : Map → Pos → Bool → Result (Unit {0}) MapError → Map → Type 0
SetsMask old p masked result new = MatchResult result (λ _. InGrid old.size p × (new ≡ with_mask old p masked)) (λ error. IsMaskRefusal old p error × (new ≡ old))

-- a change of the map counts at most once, and every other set counts nothing
pub record CountsChange (old new : Map) (before now : ℕ) : Type 0 where
  pub later : before ≤ now
  pub once : now ≤ before + 1
  pub unchanged : new ≡ old → now ≡ before
