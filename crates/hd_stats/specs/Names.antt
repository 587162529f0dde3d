-- The names of height parameters.
use Rattle.std.specs.Prelude.{ℕ, ℤ, List, [], ◌∷◌, codes, Option, Result}
use Rattle.hd_feature.specs.declared.notation.NotationError.{NotationError}
use Rattle.hd_feature.specs.Names.{AtHeight, Plain, Row, named_by, row}
use Rattle.hd_stats.specs.declared.name.HeightName.{HeightName}
use Rattle.hd_stats.specs.declared.name.HeightName.TheVariants.{Sp, Sv, Sa, Smr}

-- the names
abbrev pub height_names : List (Row HeightName)
height_names = row (codes "Sp") (Plain Sp)
    ∷ row (codes "Sv") (Plain Sv)
    ∷ row (codes "Sa") (Plain Sa)
    ∷ row (codes "Smr") (AtHeight (λ c. Smr c))
    ∷ []

-- the height parameter of a name and a height, or the first refusal
abbrev pub height_name_of : List ℕ → Option ℤ → Result HeightName NotationError
height_name_of name c = named_by height_names name c
