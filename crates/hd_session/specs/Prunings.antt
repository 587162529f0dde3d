-- The answer that tells the pruning of a side.
use Rattle.std.specs.Prelude.{ℕ, List}
use Rattle.hd_map.specs.declared.types.RegionSize.{RegionSize}
use Rattle.hd_map.specs.declared.types.SideName.{SideName}
use Rattle.hd_map.specs.Pruning.{Leaving}
use Rattle.hd_regions.specs.Owned.{ArePrunedRegions}
use Rattle.hd_report.specs.Prunings.{prune_text}
use Rattle.hd_session.specs.Reply.{Reply, Reports, accepted_with}
use Rattle.hd_session.specs.State.{State}

-- the pruning of the present map is told
pub record IsPruneAnswer (s : State) (side : SideName) (thousandths : ℕ) (reply : Reply) (after : State) : Type 0 where
  pub steps : List Leaving
  pub kept : List RegionSize
  pub are : ArePrunedRegions s.map side thousandths steps kept
  pub answer : Reports s after (accepted_with (prune_text side thousandths s.map.size steps kept)) reply
