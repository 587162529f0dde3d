-- Which commands only report, and which of them ask for a parameter or for attribute values.
use Rattle.hd_script.specs.declared.command.Command.{Command}
use Rattle.hd_script.specs.declared.command.Command.TheVariants.{Do, Undo, Element, Neighbours, Param, Feature, HeightValue, Hist, Perc}

-- a command that changes nothing
abbrev pub IsReport : Command → Type 0
IsReport (Do edit) = ⊥
IsReport (Undo n) = ⊥
IsReport (Element name width height table) = ⊥
IsReport (Neighbours adjacency) = ⊥
IsReport other = Unit {0}

-- a command that asks for a parameter or for attribute values
abbrev pub AsksValue : Command → Type 0
AsksValue (Param name height) = Unit {0}
AsksValue (Feature word) = Unit {0}
AsksValue (HeightValue name c) = Unit {0}
AsksValue (Hist bins word) = Unit {0}
AsksValue (Perc above word) = Unit {0}
AsksValue other = ⊥
