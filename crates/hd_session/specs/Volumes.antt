-- The answer that lists the fill volumes of kept pits.
use Rattle.std.specs.Prelude.{ℕ, List, Option}
use Rattle.hd_map.specs.declared.types.SideName.{SideName}
use Rattle.hd_num.specs.declared.frac.Frac.{Frac}
use Rattle.hd_prune.specs.declared.step.Kept.{Kept}
use Rattle.hd_prune.specs.Staying.{AreKeptAlone}
use Rattle.hd_stats.specs.Fill.{AreFills}
use Rattle.hd_report.specs.Volumes.{AreWithVolumes, fill_text}
use Rattle.hd_session.specs.Reply.{Reply, Reports, accepted_with}
use Rattle.hd_session.specs.State.{State}

-- the pits that the pruning of the present map keeps, each with its volume
pub record IsVolumesAnswer (s : State) (side : SideName) (thousandths : ℕ) (reply : Reply) (after : State) : Type 0 where
  pub kept : List Kept
  pub are_kept : AreKeptAlone s.map side thousandths kept
  pub volumes : List (Option Frac)
  pub are : AreFills s.map side kept volumes
  pub fills : List (Kept × Option Frac)
  pub with_volumes : AreWithVolumes kept volumes fills
  pub answer : Reports s after (accepted_with (fill_text side thousandths s.map.size fills)) reply
