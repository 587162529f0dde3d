-- The reports on a pruning.
use Rattle.hd_map.specs.declared.types.SideName.{SideName}
use Rattle.hd_num.specs.declared.percent.Percent.{Percent}
use Rattle.hd_script.specs.declared.command.Command.{Command}
use Rattle.hd_script.specs.declared.command.Command.TheVariants.{Prune, Lines, Audit, Fill}
use Rattle.hd_script.specs.declared.prunings.PruningReport.{PruningReport}
use Rattle.hd_script.specs.declared.prunings.PruningReport.TheVariants as report

-- the command of a report on the pruning of a side at a percent
abbrev pub command_of : PruningReport → SideName → Percent → Command
command_of report.Steps = Prune
command_of report.Borders = Lines
command_of report.Certificate = Audit
command_of report.Volumes = Fill
