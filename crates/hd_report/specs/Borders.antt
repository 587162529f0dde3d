-- The lines of borders.
use Rattle.std.specs.Prelude.{◌++◌, ◌<◌, ℕ, Bool, true, false, List, [], ◌∷◌, length, codes, decimal}
use Rattle.std.specs.List.{flat_map}
use Rattle.hd_lines.specs.declared.line.BorderLine.{BorderLine}
use Rattle.hd_map.specs.declared.types.Size.{Size}
use Rattle.hd_map.specs.declared.types.SideName.{SideName}
use Rattle.hd_map.specs.declared.types.SideName.TheVariants.{Dales, Hills}
use Rattle.hd_map.specs.Map.{cell_count}
use Rattle.hd_report.specs.Place.{point_text, rank_text}
use Rattle.hd_report.specs.Heading.{counted_heading}

-- the two pits and the pass are points of a grid of this size
abbrev pub IsBorderInside : Size → BorderLine → Type 0
IsBorderInside size line = (line.a.index < cell_count size) × (line.b.index < cell_count size) × (line.pass.index < cell_count size)

-- a border of dales is a ridge line, one of hills a course line
abbrev pub border_word : SideName → List ℕ
border_word Dales = codes "ridge"
border_word Hills = codes "course"

-- whether the pass is the saddle of the two pits
abbrev pub pass_word : Bool → List ℕ
pass_word true = codes "saddle"
pass_word false = codes "around"

-- `ridge X Y X Y`
abbrev pub between_text : SideName → Size → BorderLine → List ℕ
between_text side size line = border_word side ++ 32 ∷ [] ++ point_text size line.a ++ 32 ∷ [] ++ point_text size line.b

-- ` pairs N pass X Y HEIGHT saddle`
abbrev pub across_text : Size → BorderLine → List ℕ
across_text size line = codes " pairs " ++ decimal line.pairs ++ codes " pass " ++ rank_text size line.pass ++ 32 ∷ [] ++ pass_word line.on_saddle

-- `ridge X Y X Y pairs N pass X Y HEIGHT saddle`
abbrev pub border_line : SideName → Size → BorderLine → List ℕ
border_line side size line = between_text side size line ++ across_text size line ++ 10 ∷ []

-- `lines S P K`
abbrev pub borders_heading : SideName → ℕ → ℕ → List ℕ
borders_heading = counted_heading (codes "lines ")

-- how many borders there are, and a line for each
abbrev pub borders_text : SideName → ℕ → Size → List BorderLine → List ℕ
borders_text side thousandths size lines = borders_heading side thousandths (length lines) ++ flat_map (border_line side size) lines
