-- What a filter answers for a map: the new cells, or the first position that is out of range.
use Rattle.std.specs.Prelude.{◌≡◌, ◌<◌, ℤ, List, length, Some, None, Result, MatchResult}
use Rattle.hd_map.specs.declared.types.Pos.{Pos}
use Rattle.hd_map.specs.declared.types.Cell.{Cell}
use Rattle.hd_map.specs.declared.types.Cell.TheVariants.{Height}
use Rattle.hd_map.specs.Map.{Map, InGrid, IsCellOf, AreCellsOf, cell_count, cell_at, place_of}
use Rattle.hd_morph.specs.declared.errors.MorphError.{MorphError}
use Rattle.hd_morph.specs.declared.errors.MorphError.TheVariants.{Memory, HeightRange}
use Rattle.hd_morph.specs.Element.{ElementTable, IsElement}
use Rattle.hd_morph.specs.declared.filter.Filter.{Filter}
use Rattle.hd_morph.specs.Filter.{Relief, IsFiltered, relief_of}

-- the map with these cells; the masks stay
abbrev pub with_cells : Map → List Cell → Map
with_cells m cells = record m { cells = cells }

-- the cells are these heights, where there are any, and else those of the map; all are of its type
pub record AreCellsWith (m : Map) (heights : Relief) (cells : List Cell) : Type 0 where
  pub whole : length cells ≡ cell_count m.size
  pub present : (p : Pos) → InGrid m.size p → (z : ℤ) → heights p ≡ Some z
      → cell_at (with_cells m cells) p ≡ Height z
  pub absent : (p : Pos) → InGrid m.size p → heights p ≡ None → cell_at (with_cells m cells) p ≡ cell_at m p
  pub of_type : AreCellsOf m.data_type cells

-- the first position by index whose height is outside the type of the map
pub record IsFirstOutside (m : Map) (heights : Relief) (p : Pos) : Type 0 where
  pub in_grid : InGrid m.size p
  pub height : ℤ
  pub is_height : heights p ≡ Some height
  pub outside : IsCellOf m.data_type (Height height) → ⊥
  pub first : (q : Pos) → InGrid m.size q → place_of m.size q < place_of m.size p
      → (z : ℤ) → heights q ≡ Some z → IsCellOf m.data_type (Height z)

-- the cells of the map, filtered
pub record AreFilteredCells (filter : Filter) (m : Map) (e : ElementTable) (cells : List Cell) : Type 0 where
  pub heights : Relief
  pub filtered : IsFiltered filter m.size e (relief_of m) heights
  pub are_cells : AreCellsWith m heights cells

-- p is the first position at which the filtered map is out of range
pub record IsOutOfRange (filter : Filter) (m : Map) (e : ElementTable) (p : Pos) : Type 0 where
  pub heights : Relief
  pub filtered : IsFiltered filter m.size e (relief_of m) heights
  pub first_outside : IsFirstOutside m heights p

-- memory may be refused; a height is out of range only where it is so first
abbrev pub IsFilterRefusal : Filter → Map → ElementTable → MorphError → Type 0
IsFilterRefusal filter m e Memory = Unit {0}
IsFilterRefusal filter m e (HeightRange p) = IsOutOfRange filter m e p

-- the new cells of the map, or why it has none
abbrev pub FiltersMap : Filter → Map → ElementTable → Result (List Cell) MorphError → Type 0
FiltersMap filter m e result = MatchResult result (AreFilteredCells filter m e) (IsFilterRefusal filter m e)

-- accepted, and done again on the map with its cells, the filter is accepted with the same cells
abbrev pub IsStable : Filter → Type 0
IsStable filter = (m : Map) (e : ElementTable) (cells : List Cell) → IsElement e
    → AreFilteredCells filter m e cells → AreFilteredCells filter (with_cells m cells) e cells
