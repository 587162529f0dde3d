-- The lines of fill volumes.
use Rattle.std.specs.Prelude.{◌≡◌, ◌++◌, ℕ, List, [], ◌∷◌, length, map, Option, codes}
use Rattle.hd_map.specs.declared.types.Rank.{Rank}
use Rattle.hd_map.specs.declared.types.Size.{Size}
use Rattle.hd_map.specs.declared.types.SideName.{SideName}
use Rattle.hd_num.specs.declared.frac.Frac.{Frac}
use Rattle.hd_prune.specs.declared.step.Kept.{Kept}
use Rattle.hd_report.specs.Place.{point_text}
use Rattle.hd_report.specs.Values.{value_text}
use Rattle.hd_report.specs.Heading.{counted_heading}

-- `volume X Y VALUE`
abbrev pub volume_line : Size → Rank → Option Frac → List ℕ
volume_line size pit volume = codes "volume " ++ point_text size pit ++ 32 ∷ [] ++ value_text volume ++ 10 ∷ []

-- these are the kept pits, each with its volume
pub record AreWithVolumes (kept : List Kept) (volumes : List (Option Frac)) (fills : List (Kept × Option Frac)) : Type 0 where
  pub pits : map (λ f. f.0) fills ≡ kept
  pub values : map (λ f. f.1) fills ≡ volumes

-- a line for each kept pit with its volume
abbrev pub volume_lines : Size → List (Kept × Option Frac) → List ℕ
volume_lines size [] = []
volume_lines size (fill ∷ fills) = volume_line size fill.0.pit fill.1 ++ volume_lines size fills

-- `fill S P KEPT`
abbrev pub fill_heading : SideName → ℕ → ℕ → List ℕ
fill_heading = counted_heading (codes "fill ")

-- how many pits are kept, and a line for each with its volume
abbrev pub fill_text : SideName → ℕ → Size → List (Kept × Option Frac) → List ℕ
fill_text side thousandths size fills = fill_heading side thousandths (length fills) ++ volume_lines size fills
