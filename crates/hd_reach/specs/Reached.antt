-- What is reached below a level.
use Rattle.std.specs.Prelude.{true, List, Option}
use Rattle.hd_map.specs.declared.types.Pos.{Pos}
use Rattle.hd_map.specs.declared.types.Rank.{Rank}
use Rattle.hd_map.specs.declared.types.SideName.{SideName}
use Rattle.hd_map.specs.Map.{Map}
use Rattle.hd_map.specs.Path.{Leads}
use Rattle.hd_reach.specs.Steps.{OpenStep}
use Rattle.hd_reach.specs.Within.{LiesWithin}

-- two neighbours below the level, or any two where there is none
abbrev pub IsLowStep : Map → SideName → Option Rank → Pos → Pos → Type 0
IsLowStep m side level = OpenStep m (LiesWithin m side level true)

-- p is reached from a by such steps
abbrev pub IsReachedLow : Map → SideName → Option Rank → Pos → Pos → Type 0
IsReachedLow m side level a p = (xs : List Pos) × Leads (IsLowStep m side level) a xs p
