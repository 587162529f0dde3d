-- The answer that lists the borders of a pruning.
use Rattle.std.specs.Prelude.{ℕ, List}
use Rattle.hd_lines.specs.declared.line.BorderLine.{BorderLine}
use Rattle.hd_map.specs.declared.types.SideName.{SideName}
use Rattle.hd_regions.specs.Lines.{ArePrunedLines}
use Rattle.hd_report.specs.Borders.{borders_text}
use Rattle.hd_session.specs.Reply.{Reply, Reports, accepted_with}
use Rattle.hd_session.specs.State.{State}

-- the border lines of the pruning of the present map
pub record IsBordersAnswer (s : State) (side : SideName) (thousandths : ℕ) (reply : Reply) (after : State) : Type 0 where
  pub lines : List BorderLine
  pub are : ArePrunedLines s.map side thousandths lines
  pub answer : Reports s after (accepted_with (borders_text side thousandths s.map.size lines)) reply
