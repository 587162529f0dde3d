-- The outcome of a filter of a map.
use Rattle.std.specs.Prelude.{◌≡◌, List, Option, Some, None, Result, Err, MatchResult}
use Rattle.hd_map.specs.declared.types.Cell.{Cell}
use Rattle.hd_map.specs.Map.{Map}
use Rattle.hd_morph.specs.Element.{ElementTable}
use Rattle.hd_morph.specs.declared.filter.Filter.{Filter}
use Rattle.hd_morph.specs.Answer.{AreFilteredCells, IsOutOfRange, with_cells}
use Rattle.hd_edit.specs.declared.edit.EditError.{EditError}
use Rattle.hd_edit.specs.declared.edit.EditError.TheVariants.{HeightRange, NoElement}

-- a map with its cells filtered; the masks stay
pub record IsFilteredMap (filter : Filter) (m : Map) (e : ElementTable) (new : Map) : Type 0 where
  pub cells : List Cell
  pub are_filtered : AreFilteredCells filter m e cells
  pub is_map : new ≡ with_cells m cells

-- a filter is refused where a new height is out of range, at the first such position
abbrev pub IsFilterRefusal : Filter → Map → ElementTable → EditError → Type 0
IsFilterRefusal filter m e (HeightRange p) = IsOutOfRange filter m e p
IsFilterRefusal filter m e error = ⊥

-- the outcome of a filter by an element: without one it is refused
abbrev pub IsFilteredBy : Filter → Map → Option ElementTable → Result Map EditError → Type 0
IsFilteredBy filter m None outcome = outcome ≡ Err NoElement
IsFilteredBy filter m (Some e) outcome = MatchResult outcome (IsFilteredMap filter m e) (IsFilterRefusal filter m e)
