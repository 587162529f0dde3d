use Rattle.std.proofs.Common.{subst}
use Rattle.hd_survey.specs.Sums.{IsSumOfMeans}
use Rattle.hd_survey.proofs.values.parameter_value.Goals as goal

pub sum_of-requires-clause-first : goal.sum_of-requires-clause-first
sum_of-requires-clause-first g c =
    let fit = subst IsSumOfMeans c.in-Sum.is c.requires.sum in
    c.in_ok-first-in-Sum.ensures.small (fit.0).attribute (fit.0).statistic

pub sum_of-requires-clause-second : goal.sum_of-requires-clause-second
sum_of-requires-clause-second g c =
    let fit = subst IsSumOfMeans c.in-Sum.is c.requires.sum in
    c.in_ok-second-in-Sum.ensures.small (fit.1).attribute (fit.1).statistic
