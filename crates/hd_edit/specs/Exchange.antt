-- The heights of a map exchanged for others, and how many of them that makes others.
use Rattle.std.specs.Prelude.{◌≡◌, not, ℕ, ℤ, Bool, true, false, List, Option, Some, None, slice_index_or}
use Rattle.std.specs.Ordering.{int_eq}
use Rattle.hd_map.specs.Encoding.{Encoding, values_of}
use Rattle.hd_map.specs.Map.{Map}
use Rattle.hd_morph.specs.Answer.{with_cells}
use Rattle.hd_morph.specs.Listed.{AreHeightsOf}
use Rattle.hd_morph.specs.NewHeights.{cells_after}
use Rattle.hd_edit.specs.declared.exchange.Way.{Way}
use Rattle.hd_edit.specs.declared.exchange.Way.TheVariants.{Leave, Exchange, Note}
use Rattle.hd_edit.specs.Stroke.{count_below}

-- the new map has the heights for which numbers stand, and all else of the old one, its masks too; a list holds the
-- heights of the old one's points
pub record AreExchanged {L : Type 0} (code : Encoding L) (m new : Map) (numbers old : List L) : Type 0 where
  pub sets : new ≡ with_cells m (cells_after m (values_of code numbers))
  pub held : AreHeightsOf code m old

-- whether two heights, or none, are not the same
abbrev pub differs : Option ℤ → Option ℤ → Bool
differs (Some a) (Some b) = not (int_eq a b)
differs (Some a) None = true
differs None (Some b) = true
differs None None = false

-- at how many of the first places two lists differ
abbrev pub different : List (Option ℤ) → List (Option ℤ) → ℕ → ℕ
different olds news n = count_below (λ k. differs (slice_index_or olds k None) (slice_index_or news k None)) n

-- heights are left only where none of them becomes another
abbrev pub IsWayFor : List (Option ℤ) → List (Option ℤ) → ℕ → Way → Type 0
IsWayFor olds news n Leave = different olds news n ≡ 0
IsWayFor olds news n Exchange = Unit {0}
IsWayFor olds news n Note = Unit {0}
