use Rattle.std.proofs.Common.{arith}
use Rattle.std.proofs.lemmas.Grind.{common_steps}
use Rattle.hd_survey.proofs.owned.plain_tallies.Goals as goal

pub regions-preserved : goal.regions-preserved
regions-preserved c = grind (arith, common_steps)

pub returns : goal.returns
returns c = grind (arith, common_steps)
