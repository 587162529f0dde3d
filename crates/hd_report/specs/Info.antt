-- The lines that tell the size, the type and the heights of a map, and the scales of its file.
use Rattle.std.specs.Prelude.{◌++◌, ℕ, List, [], ◌∷◌, Option, Some, None, codes, decimal}
use Rattle.std.specs.Fmt.{signed_decimal}
use Rattle.hd_map.specs.declared.height_range.HeightRange.{HeightRange}
use Rattle.hd_map.specs.declared.presence.Presence.{Presence}
use Rattle.hd_map.specs.declared.types.DataType.{DataType}
use Rattle.hd_map.specs.declared.types.DataType.TheVariants.{U8, U16, U32, I8, I16, I32, Single, Double}
use Rattle.hd_map.specs.declared.types.Size.{Size}

-- the code of a type
abbrev pub code_text : DataType → List ℕ
code_text U8 = codes "0"
code_text U16 = codes "1"
code_text U32 = codes "2"
code_text I8 = codes "4"
code_text I16 = codes "5"
code_text I32 = codes "6"
code_text (Single places) = codes "3"
code_text (Double places) = codes "7"

-- `size POINTS PROFILES`
abbrev pub size_line : Size → List ℕ
size_line size = codes "size " ++ decimal size.points ++ 32 ∷ [] ++ decimal size.profiles ++ 10 ∷ []

-- `type CODE`
abbrev pub type_line : DataType → List ℕ
type_line data_type = codes "type " ++ code_text data_type ++ 10 ∷ []

-- `places P`
abbrev pub places_line : ℕ → List ℕ
places_line places = codes "places " ++ decimal places ++ 10 ∷ []

-- the line of the decimal places, for a type of decimals alone
abbrev pub places_lines : DataType → List ℕ
places_lines (Single places) = places_line places
places_lines (Double places) = places_line places
places_lines type = []

-- `present N`
abbrev pub present_line : ℕ → List ℕ
present_line count = codes "present " ++ decimal count ++ 10 ∷ []

-- `range LEAST GREATEST` or `range none`
abbrev pub range_line : Option HeightRange → List ℕ
range_line (Some range) = codes "range " ++ signed_decimal range.least ++ 32 ∷ [] ++ signed_decimal range.greatest ++ 10 ∷ []
range_line None = codes "range none" ++ 10 ∷ []

-- `scales X Y Z`
abbrev pub scales_line : List ℕ → List ℕ → List ℕ → List ℕ
scales_line x y z = codes "scales " ++ x ++ 32 ∷ [] ++ y ++ 32 ∷ [] ++ z ++ 10 ∷ []

-- the six lines, and one more for a type of decimals
abbrev pub info_text : Size → DataType → Presence → List ℕ → List ℕ → List ℕ → List ℕ
info_text size data_type presence x y z = codes "info" ++ 10 ∷ [] ++ size_line size ++ type_line data_type ++ places_lines data_type ++ present_line presence.count
    ++ range_line presence.range ++ scales_line x y z
