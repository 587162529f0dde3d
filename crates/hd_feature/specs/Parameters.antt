-- The named parameters.
use Rattle.std.specs.Prelude.{ℕ, ℤ, List, [], ◌∷◌, codes, Option, Result}
use Rattle.hd_feature.specs.declared.notation.Attribute.{Attribute}
use Rattle.hd_feature.specs.declared.notation.Attribute.TheVariants.{Lpvh, Count, AreaE}
use Rattle.hd_feature.specs.declared.notation.Kind.{Kind}
use Rattle.hd_feature.specs.declared.notation.Kind.TheVariants.{Hill, Dale}
use Rattle.hd_feature.specs.declared.notation.Notation.{Notation}
use Rattle.hd_feature.specs.declared.notation.NotationError.{NotationError}
use Rattle.hd_feature.specs.declared.notation.Parameter.{Parameter}
use Rattle.hd_feature.specs.declared.notation.Parameter.TheVariants as parameter
use Rattle.hd_feature.specs.declared.notation.Significance.{Significance}
use Rattle.hd_feature.specs.declared.notation.Significance.TheVariants.{All, Top, Bot, Closed}
use Rattle.hd_feature.specs.declared.notation.Statistic.{Statistic}
use Rattle.hd_feature.specs.declared.notation.Statistic.TheVariants.{Mean, Density}
use Rattle.hd_feature.specs.Names.{AtHeight, Plain, Row, named_by, row}

-- a notation with the pruning at 5%
abbrev pub pruned : Kind → Significance → Attribute → Statistic → Notation
pruned kind significance attribute statistic = record { kind = kind; percent = record { thousandths = 5000 }; significance = significance; attribute = attribute; statistic = statistic }

-- the names
abbrev pub names : List (Row Parameter)
names = row (codes "Spd") (Plain (parameter.One (pruned Hill All Count Density)))
    ∷ row (codes "S5p") (Plain (parameter.One (pruned Hill (Top 5) Lpvh Mean)))
    ∷ row (codes "S5v") (Plain (parameter.One (pruned Dale (Bot 5) Lpvh Mean)))
    ∷ row (codes "S10z") (Plain (parameter.Sum (pruned Hill (Top 5) Lpvh Mean) (pruned Dale (Bot 5) Lpvh Mean)))
    ∷ row (codes "Sda") (AtHeight (λ c. parameter.One (pruned Dale (Closed c) AreaE Mean)))
    ∷ row (codes "Sha") (AtHeight (λ c. parameter.One (pruned Hill (Closed c) AreaE Mean)))
    ∷ []

-- the parameter of a name and a height, or the first refusal
abbrev pub parameter_of : List ℕ → Option ℤ → Result Parameter NotationError
parameter_of name c = named_by names name c
