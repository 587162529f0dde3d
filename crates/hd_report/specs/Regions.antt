-- The lines of regions, and of the region that a point lies in.
use Rattle.std.specs.Prelude.{◌++◌, ℕ, List, [], ◌∷◌, length, codes, decimal}
use Rattle.std.specs.List.{flat_map}
use Rattle.hd_map.specs.declared.types.Pos.{Pos}
use Rattle.hd_map.specs.declared.types.RegionSize.{RegionSize}
use Rattle.hd_map.specs.declared.types.SideName.{SideName}
use Rattle.hd_map.specs.declared.types.SideName.TheVariants.{Dales, Hills}
use Rattle.hd_map.specs.declared.types.Size.{Size}
use Rattle.hd_report.specs.Place.{place_text, rank_text, side_text}

abbrev pub many_word : SideName → List ℕ
many_word Dales = codes "dales "
many_word Hills = codes "hills "

abbrev pub one_word : SideName → List ℕ
one_word Dales = codes "dale "
one_word Hills = codes "hill "

-- the line of a region: its pit's column, profile and height, and the number of its points
abbrev pub region_line : SideName → Size → RegionSize → List ℕ
region_line side size region = one_word side ++ rank_text size region.pit ++ 32 ∷ [] ++ decimal region.points ++ 10 ∷ []

-- how many regions there are, and a line for each
abbrev pub regions_text : SideName → Size → List RegionSize → List ℕ
regions_text side size regions = many_word side ++ decimal (length regions) ++ 10 ∷ [] ++ flat_map (region_line side size) regions

-- `label S X Y in PX PY`
abbrev pub label_text : SideName → Pos → Pos → List ℕ
label_text side at root = codes "label " ++ side_text side ++ 32 ∷ [] ++ place_text at ++ codes " in " ++ place_text root ++ 10 ∷ []
