-- Heights of a map, one by one.
use Rattle.std.specs.Prelude.{◌≡◌, ℤ, List, Some}
use Rattle.hd_map.specs.declared.types.Pos.{Pos}
use Rattle.hd_map.specs.declared.types.Cell.TheVariants.{Height}
use Rattle.hd_map.specs.Map.{Map, InGrid, IsCellOf}
use Rattle.hd_map.specs.Encoding.{Encoding, values_of}
use Rattle.hd_map.specs.Lanes.{IsBounded}
use Rattle.hd_morph.specs.Filter.{Relief, relief_of}
use Rattle.hd_morph.specs.Plain.{relief, ArePlain}

-- the plain numbers are the heights of a map
pub record AreHeightsOf {L : Type 0} (code : Encoding L) (m : Map) (numbers : List L) : Type 0 where
  pub plain : ArePlain code m.size code.most_height numbers
  pub each : (p : Pos) → InGrid m.size p → relief m.size (values_of code numbers) p ≡ relief_of m p

-- a height of the map is too far from zero for these numbers
pub record IsBeyond {L : Type 0} (code : Encoding L) (m : Map) : Type 0 where
  pub at : Pos
  pub in_grid : InGrid m.size at
  pub beyond : IsBounded code.most_height (relief_of m at) → ⊥

-- each height is of the type of the map
abbrev pub AreOfType : Map → Relief → Type 0
AreOfType m heights = (p : Pos) → InGrid m.size p → (z : ℤ) → heights p ≡ Some z → IsCellOf m.data_type (Height z)
