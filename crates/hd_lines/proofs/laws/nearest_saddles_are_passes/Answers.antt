use Rattle.hd_lines.proofs.PassesAndSaddles.{AreBorderLines-nearest_passes}
use Rattle.hd_lines.proofs.laws.nearest_saddles_are_passes.Goals as goal

pub returns : goal.returns
returns c = AreBorderLines-nearest_passes
