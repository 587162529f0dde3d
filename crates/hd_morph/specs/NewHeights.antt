-- The new heights of a map: what its cells become, and what a filter makes of them.
use Rattle.std.specs.Prelude.{◌≡◌, ℕ, ℤ, List, map, length, slice_index_or, Option, None, Result, MatchResult}
use Rattle.std.specs.List.{range_with_len}
use Rattle.hd_map.specs.declared.types.Cell.{Cell}
use Rattle.hd_map.specs.declared.types.Cell.TheVariants.{Bad}
use Rattle.hd_map.specs.Map.{Map, cell_count}
use Rattle.hd_map.specs.Sets.{cell_with}
use Rattle.hd_morph.specs.declared.errors.MorphError.{MorphError}
use Rattle.hd_morph.specs.Element.{ElementTable}
use Rattle.hd_morph.specs.declared.filter.Filter.{Filter}
use Rattle.hd_morph.specs.Answer.{AreFilteredCells, IsFilterRefusal}

-- what the cell at an index becomes
abbrev pub cell_after : Map → List (Option ℤ) → ℕ → Cell
cell_after m heights k = cell_with (slice_index_or heights k None) (slice_index_or m.cells k Bad)

-- the cells of a map with new heights, by index
abbrev pub cells_after : Map → List (Option ℤ) → List Cell
cells_after m heights = map (cell_after m heights) (range_with_len 0 (cell_count m.size))

-- with the new heights the map is filtered
pub record AreNewHeights (filter : Filter) (m : Map) (e : ElementTable) (heights : List (Option ℤ)) : Type 0 where
  pub whole : length heights ≡ cell_count m.size
  pub filtered : AreFilteredCells filter m e (cells_after m heights)

-- the new heights of a filter, or why it has none
abbrev pub MakesNewHeights : Filter → Map → ElementTable → Result (List (Option ℤ)) MorphError → Type 0
MakesNewHeights filter m e result = MatchResult result (AreNewHeights filter m e) (IsFilterRefusal filter m e)
