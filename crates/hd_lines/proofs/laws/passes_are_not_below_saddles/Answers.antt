use Rattle.hd_lines.proofs.PassesAndSaddles.{AreBorderLines-passes_above}
use Rattle.hd_lines.proofs.laws.passes_are_not_below_saddles.Goals as goal

pub returns : goal.returns
returns c = AreBorderLines-passes_above
