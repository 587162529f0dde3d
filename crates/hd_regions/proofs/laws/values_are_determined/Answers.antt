use Rattle.hd_regions.proofs.ValuesDetermined.{notation_value-one, parameter_value-one}
use Rattle.hd_regions.proofs.laws.values_are_determined.Goals as goal

pub returns-clause-notations : goal.returns-clause-notations
returns-clause-notations c = λ m n a b whole x y.
    notation_value-one (record { prunings = c.pruning_is_determined.ensures; fractions = c.reduced_fraction_is_determined.ensures }) m whole n a b x y

pub returns-clause-parameters : goal.returns-clause-parameters
returns-clause-parameters c = λ m p a b whole x y.
    parameter_value-one (record { prunings = c.pruning_is_determined.ensures; fractions = c.reduced_fraction_is_determined.ensures }) m whole p a b x y
