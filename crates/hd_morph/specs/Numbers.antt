-- Lists of plain numbers of either type.
use Rattle.std.specs.Prelude.{ℤ, List, Option}
use Rattle.hd_map.specs.Encoding.{narrow, wide, values_of}
use Rattle.hd_morph.specs.declared.new_heights.Numbers.{Numbers}
use Rattle.hd_morph.specs.declared.new_heights.Numbers.TheVariants.{Narrow, Wide}

-- the heights for which the numbers stand
abbrev pub heights_in : Numbers → List (Option ℤ)
heights_in (Narrow numbers) = values_of narrow numbers.items
heights_in (Wide numbers) = values_of wide numbers.items
