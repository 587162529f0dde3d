use Rattle.std.proofs.Common.{arith}
use Rattle.std.proofs.lemmas.Grind.{common_steps}
use Rattle.hd_feature.proofs.statistic.total.Goals as goal

pub values-preserved : goal.values-preserved
values-preserved c = grind (arith, common_steps)

pub overflow_add-sum : goal.overflow_add-sum
overflow_add-sum c = grind (arith, common_steps)

pub returns : goal.returns
returns c = grind (arith, common_steps)
