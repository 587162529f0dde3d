use Rattle.hd_survey.proofs.Sums.{denominator_by_denominator, numerator_by_denominator}
use Rattle.hd_survey.proofs.values.sum_of.Goals as goal

pub add-requires-clause-own : goal.add-requires-clause-own
add-requires-clause-own c = numerator_by_denominator c.in-Some-Some.first c.in-Some-Some.second (c.requires.first c.in-Some-Some.first c.in-Some-Some.is-0)
    (c.requires.second c.in-Some-Some.second c.in-Some-Some.is-1)

pub add-requires-clause-other : goal.add-requires-clause-other
add-requires-clause-other c = numerator_by_denominator c.in-Some-Some.second c.in-Some-Some.first (c.requires.second c.in-Some-Some.second c.in-Some-Some.is-1)
    (c.requires.first c.in-Some-Some.first c.in-Some-Some.is-0)

pub add-requires-clause-dens : goal.add-requires-clause-dens
add-requires-clause-dens c = denominator_by_denominator c.in-Some-Some.first c.in-Some-Some.second (c.requires.first c.in-Some-Some.first c.in-Some-Some.is-0)
    (c.requires.second c.in-Some-Some.second c.in-Some-Some.is-1)
