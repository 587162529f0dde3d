-- A number in seven bytes.
use Rattle.std.specs.Prelude.{◌++◌, ◌∷◌, [], ℕ, List}
use Rattle.std.specs.Int.{w64, from_le_bytes}
use Rattle.hd_edit.specs.declared.height_bytes.OverLeast.{OverLeast}

-- the number of which these are the lowest bytes, the lowest first; there is no other
abbrev pub number_of : OverLeast → ℕ
number_of over = from_le_bytes w64 (over.bytes ++ 0 ∷ [])

-- a number of four bytes in seven
abbrev pub widened : List ℕ → OverLeast
widened low = record { bytes = low ++ 0 ∷ 0 ∷ 0 ∷ [] }
