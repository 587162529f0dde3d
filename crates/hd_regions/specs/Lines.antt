-- The border lines that a pruning leaves.
use Rattle.std.specs.Prelude.{ℕ, List}
use Rattle.hd_lines.specs.declared.line.BorderLine.{BorderLine}
use Rattle.hd_lines.specs.Lines.{AreBorderLines}
use Rattle.hd_map.specs.declared.types.Rank.{Rank}
use Rattle.hd_map.specs.declared.types.SideName.{SideName}
use Rattle.hd_map.specs.Map.{Map}
use Rattle.hd_map.specs.Pruning.{IsPruning, Leaving}

-- the border lines between the kept pits of the pruning of a map on a side at this percent
pub record ArePrunedLines (m : Map) (side : SideName) (thousandths : ℕ) (lines : List BorderLine) : Type 0 where
  pub steps : List Leaving
  pub last : List Rank
  pub owner : Rank → Rank
  pub pruning : IsPruning m side thousandths steps last owner
  pub are : AreBorderLines m side last owner lines
