-- The text of a position and of a height.
use Rattle.std.specs.Prelude.{◌++◌, ℕ, List, [], ◌∷◌, codes, decimal}
use Rattle.std.specs.Fmt.{signed_decimal}
use Rattle.hd_map.specs.declared.types.Pos.{Pos}
use Rattle.hd_map.specs.declared.types.Rank.{Rank}
use Rattle.hd_map.specs.declared.types.Size.{Size}
use Rattle.hd_map.specs.declared.types.SideName.{SideName}
use Rattle.hd_map.specs.declared.types.SideName.TheVariants.{Dales, Hills}
use Rattle.hd_map.specs.Map.{position_at}

-- the column and the profile, parted by a space
abbrev pub place_text : Pos → List ℕ
place_text at = decimal at.x ++ 32 ∷ [] ++ decimal at.y

-- the position of a point of a grid of this size
abbrev pub point_text : Size → Rank → List ℕ
point_text size point = place_text (position_at size point.index)

-- the position of a point of a grid of this size, and its height
abbrev pub rank_text : Size → Rank → List ℕ
rank_text size point = point_text size point ++ 32 ∷ [] ++ signed_decimal point.height

-- `D` or `H`
abbrev pub side_text : SideName → List ℕ
side_text Dales = codes "D"
side_text Hills = codes "H"
