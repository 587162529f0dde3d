use Rattle.hd_lines.proofs.Determined.{AreBorderLines-unique}
use Rattle.hd_lines.proofs.laws.border_lines_are_determined.Goals as goal

pub returns : goal.returns
returns c = AreBorderLines-unique
