-- A table of the names of parameters, some of which take a height.
use Rattle.std.specs.Prelude.{ℕ, ℤ, List, [], ◌∷◌, Option, Some, None, Result, Ok, Err, if◌then◌else◌}
use Rattle.std.specs.Str.{bytes_eq}
use Rattle.hd_feature.specs.declared.notation.NotationError.{NotationError}
use Rattle.hd_feature.specs.declared.notation.NotationError.TheVariants.{UnknownName, NeedsHeight, TakesNoHeight}

-- what a name means: a parameter, or one for each height
pub data Meaning (V : Type 0) : Type 0 where
  Plain : V → Meaning V
  AtHeight : (ℤ → V) → Meaning V

-- a row of the table: a name and what it means
pub record Row (V : Type 0) : Type 0 where
  pub name : List ℕ
  pub meaning : Meaning V

abbrev pub row : {V : Type 0} → List ℕ → Meaning V → Row V
row name meaning = record { name = name; meaning = meaning }

-- what a meaning gives with a height or without one
abbrev pub given : {V : Type 0} → Meaning V → Option ℤ → Result V NotationError
given (Plain p) None = Ok p
given (Plain p) (Some c) = Err TakesNoHeight
given (AtHeight f) None = Err NeedsHeight
given (AtHeight f) (Some c) = Ok (f c)

-- what the first row of a name gives
abbrev pub named_by : {V : Type 0} → List (Row V) → List ℕ → Option ℤ → Result V NotationError
named_by [] name c = Err UnknownName
named_by (first ∷ more) name c = if bytes_eq name first.name then given first.meaning c else named_by more name c
