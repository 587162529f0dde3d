-- The lines of a pruning.
use Rattle.std.specs.Prelude.{◌++◌, ◌<◌, ℕ, List, [], ◌∷◌, length, codes, decimal}
use Rattle.std.specs.Fmt.{signed_decimal}
use Rattle.std.specs.List.{flat_map}
use Rattle.hd_map.specs.declared.types.RegionSize.{RegionSize}
use Rattle.hd_map.specs.declared.types.Size.{Size}
use Rattle.hd_map.specs.declared.types.SideName.{SideName}
use Rattle.hd_map.specs.Map.{cell_count}
use Rattle.hd_map.specs.Pruning.{Leaving}
use Rattle.hd_num.specs.Percent.{percent_text}
use Rattle.hd_report.specs.Place.{point_text, side_text}
use Rattle.hd_report.specs.Regions.{region_line}

-- the three points of a step are points of a grid of this size
abbrev pub IsStepInside : Size → Leaving → Type 0
IsStepInside size step = (step.pit.index < cell_count size) × (step.saddle.index < cell_count size) × (step.into.index < cell_count size)

-- `step X Y local LH saddle X Y into X Y`
abbrev pub step_line : Size → Leaving → List ℕ
step_line size step = codes "step " ++ point_text size step.pit ++ codes " local " ++ signed_decimal step.local
    ++ codes " saddle " ++ point_text size step.saddle ++ codes " into " ++ point_text size step.into ++ 10 ∷ []

-- `prune S P STEPS KEPT`
abbrev pub prune_heading : SideName → ℕ → ℕ → ℕ → List ℕ
prune_heading side thousandths steps kept = codes "prune " ++ side_text side ++ 32 ∷ [] ++ percent_text thousandths
    ++ 32 ∷ [] ++ decimal steps ++ 32 ∷ [] ++ decimal kept ++ 10 ∷ []

-- how many steps there are and how many pits are kept, then a line for each step and for each kept region
abbrev pub prune_text : SideName → ℕ → Size → List Leaving → List RegionSize → List ℕ
prune_text side thousandths size steps kept = prune_heading side thousandths (length steps) (length kept)
    ++ flat_map (step_line size) steps ++ flat_map (region_line side size) kept
