-- The range of some heights.
use Rattle.std.specs.Prelude.{ℤ, List, [], ◌∷◌, fold, Option, Some, None}
use Rattle.std.specs.Int.{int_min, int_max}
use Rattle.hd_map.specs.declared.height_range.HeightRange.{HeightRange}

-- the least and the greatest of some heights
abbrev pub range_of : List ℤ → Option HeightRange
range_of [] = None
range_of (height ∷ heights) = Some (record { least = fold int_min height heights; greatest = fold int_max height heights })

-- the range with one more height
abbrev pub widened : Option HeightRange → ℤ → HeightRange
widened None height = record { least = height; greatest = height }
widened (Some range) height = record { least = int_min range.least height; greatest = int_max range.greatest height }
