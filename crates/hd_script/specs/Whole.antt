-- What is known of a command beside its values.
use Rattle.std.specs.Prelude.{◌≡◌, ◌≤◌, ◌*◌, ℕ, ℤ, List, length, All, Option, Some, None}
use Rattle.hd_morph.specs.Element.{IsEntry}
use Rattle.hd_script.specs.declared.command.Command.{Command}
use Rattle.hd_script.specs.declared.command.Command.TheVariants.{Element, Hist}

-- a table has as many entries as its sizes say, each within the limits
pub record IsTable (width height : ℕ) (table : List (Option ℤ)) : Type 0 where
  pub whole : length table ≡ width * height
  pub entries : All IsEntry table

-- a number of bins is from 1 to 64
abbrev pub AreBins : ℕ → Type 0
AreBins n = (1 ≤ n) × (n ≤ 64)

-- the table of an element is one, and the bins of a distribution are so many
abbrev pub IsWhole : Command → Type 0
IsWhole (Element name width height table) = IsTable width height table
IsWhole (Hist bins word) = AreBins bins
IsWhole other = Unit {0}

-- and so it is where there is a command
abbrev pub IsWholeIfAny : Option Command → Type 0
IsWholeIfAny (Some command) = IsWhole command
IsWholeIfAny None = Unit {0}
