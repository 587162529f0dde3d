-- The first lines of lists that a pruning leaves.
use Rattle.std.specs.Prelude.{◌++◌, ◌∷◌, [], ℕ, List, decimal}
use Rattle.hd_map.specs.declared.types.SideName.{SideName}
use Rattle.hd_num.specs.Percent.{percent_text}
use Rattle.hd_report.specs.Place.{side_text}

-- a word with the blank after it, a side, a percent and a count
abbrev pub counted_heading : List ℕ → SideName → ℕ → ℕ → List ℕ
counted_heading word side thousandths count = word ++ side_text side ++ 32 ∷ [] ++ percent_text thousandths
    ++ 32 ∷ [] ++ decimal count ++ 10 ∷ []
