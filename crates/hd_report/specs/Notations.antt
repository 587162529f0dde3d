-- Why notations and names of parameters are refused.
use Rattle.std.specs.Prelude.{◌++◌, ℕ, List, codes, decimal}
use Rattle.hd_feature.specs.declared.notation.NotationError.{NotationError}
use Rattle.hd_feature.specs.declared.notation.NotationError.TheVariants.{BadPart, BadPair, UnknownName, NeedsHeight, TakesNoHeight}

-- why a notation or a name is refused
abbrev pub notation_text : NotationError → List ℕ
notation_text (BadPart n) = codes "part " ++ decimal n ++ codes " has not its form"
notation_text (BadPair n) = codes "part " ++ decimal n ++ codes " does not go with the type"
notation_text UnknownName = codes "unknown parameter"
notation_text NeedsHeight = codes "the parameter needs a height"
notation_text TakesNoHeight = codes "the parameter takes no height"
