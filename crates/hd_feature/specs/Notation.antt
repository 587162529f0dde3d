-- The notation of a word: the table of forms by parts, and the pairs that go together.
use Rattle.std.specs.Prelude.{◌==◌, ℕ, ℤ, Bool, true, false, nat_le, List, length, take, drop, codes, Option, Some, None, Result, Ok, Err, option_map, if◌then◌else◌}
use Rattle.std.specs.Str.{bytes_eq}
use Rattle.hd_num.specs.declared.percent.Percent.{Percent}
use Rattle.hd_num.specs.Percent.{percent_of}
use Rattle.hd_num.specs.Whole.{count_of, whole_of, i64_of}
use Rattle.hd_feature.specs.declared.notation.Attribute.{Attribute}
use Rattle.hd_feature.specs.declared.notation.Attribute.TheVariants.{Lpvh, Count, AreaE}
use Rattle.hd_feature.specs.declared.notation.Kind.{Kind}
use Rattle.hd_feature.specs.declared.notation.Kind.TheVariants.{Hill, Dale, Peak, Pit}
use Rattle.hd_feature.specs.declared.notation.Notation.{Notation}
use Rattle.hd_feature.specs.declared.notation.NotationError.{NotationError}
use Rattle.hd_feature.specs.declared.notation.NotationError.TheVariants.{BadPair}
use Rattle.hd_feature.specs.declared.notation.Significance.{Significance}
use Rattle.hd_feature.specs.declared.notation.Significance.TheVariants.{All, Top, Bot, Closed, Open}
use Rattle.hd_feature.specs.declared.notation.Statistic.{Statistic}
use Rattle.hd_feature.specs.declared.notation.Statistic.TheVariants.{Mean, Max, Min, Sum, Density}
use Rattle.hd_feature.specs.declared.reading.Scope.{Scope}
use Rattle.hd_feature.specs.declared.reading.Scope.TheVariants.{Features}
use Rattle.hd_feature.specs.Parts.{part, no_part, parts_of}

-- the text is this one
abbrev pub is : List ℕ → List ℕ → Bool
is text word = bytes_eq text word

-- the text begins with this one
abbrev pub begins : List ℕ → List ℕ → Bool
begins text prefix = bytes_eq (take (length prefix) text) prefix

-- what stands after it
abbrev pub after : List ℕ → List ℕ → List ℕ
after text prefix = drop (length prefix) text

-- part 1
abbrev pub scope_of : List ℕ → Option Scope
scope_of text = if is text (codes "FC") then Some Features else None

-- part 2
abbrev pub kind_of : List ℕ → Option Kind
kind_of text = if is text (codes "H") then Some Hill
    else if is text (codes "D") then Some Dale
    else if is text (codes "P") then Some Peak
    else if is text (codes "V") then Some Pit
    else None

-- part 3
abbrev pub pruning_of : List ℕ → Option Percent
pruning_of text = if begins text (codes "Wolfprune:") then percent_of (after text (codes "Wolfprune:")) else None

-- a number that is at least 1
abbrev pub at_least_one : Option ℕ → Option ℕ
at_least_one None = None
at_least_one (Some n) = if n == 0 then None else Some n

-- one to seven digits, at least 1
abbrev pub number_of : List ℕ → Option ℕ
number_of text = if nat_le (length text) 7 then at_least_one (count_of text) else None

abbrev pub height_of : List ℕ → Option ℤ
height_of text = i64_of (whole_of text)

-- part 4, where it speaks of the heights of edge points
abbrev pub edge_bound : List ℕ → Option Significance
edge_bound text = if begins text (codes "Closed:") then option_map Closed (height_of (after text (codes "Closed:")))
    else if begins text (codes "Open:") then option_map Open (height_of (after text (codes "Open:")))
    else None

-- part 4
abbrev pub significance_of : List ℕ → Option Significance
significance_of text = if is text (codes "All") then Some All
    else if begins text (codes "Top:") then option_map Top (number_of (after text (codes "Top:")))
    else if begins text (codes "Bot:") then option_map Bot (number_of (after text (codes "Bot:")))
    else edge_bound text

-- part 5
abbrev pub attribute_of : List ℕ → Option Attribute
attribute_of text = if is text (codes "lpvh") then Some Lpvh
    else if is text (codes "Count") then Some Count
    else if is text (codes "AreaE") then Some AreaE
    else None

-- part 6
abbrev pub statistic_of : List ℕ → Option Statistic
statistic_of text = if is text (codes "Mean") then Some Mean
    else if is text (codes "Max") then Some Max
    else if is text (codes "Min") then Some Min
    else if is text (codes "Sum") then Some Sum
    else if is text (codes "Density") then Some Density
    else None

-- hills and peaks, which are taken of the hills; dales and pits are taken of the dales
abbrev pub takes_hills : Kind → Bool
takes_hills Hill = true
takes_hills Dale = false
takes_hills Peak = true
takes_hills Pit = false

-- hills and dales, which are regions; peaks and pits are points
abbrev pub takes_regions : Kind → Bool
takes_regions Hill = true
takes_regions Dale = true
takes_regions Peak = false
takes_regions Pit = false

-- the significance goes with the type
abbrev pub has_significance : Kind → Significance → Bool
has_significance kind All = true
has_significance kind (Top n) = takes_hills kind
has_significance kind (Bot n) = if takes_hills kind then false else true
has_significance kind (Closed c) = takes_regions kind
has_significance kind (Open c) = takes_regions kind

-- the attribute goes with the type
abbrev pub has_attribute : Kind → Attribute → Bool
has_attribute kind Lpvh = true
has_attribute kind Count = true
has_attribute kind AreaE = takes_regions kind

-- the notation, where its parts go together
abbrev pub paired : Notation → Result Notation NotationError
paired n = if has_significance n.kind n.significance then (if has_attribute n.kind n.attribute then Ok n else Err (BadPair 5)) else Err (BadPair 4)

-- the notation of a list of parts, or the first refusal
abbrev pub notation_of_parts : List (List ℕ) → Result Notation NotationError
notation_of_parts parts =
    part 1 scope_of parts (λ scope parts.
    part 2 kind_of parts (λ kind parts.
    part 3 pruning_of parts (λ percent parts.
    part 4 significance_of parts (λ significance parts.
    part 5 attribute_of parts (λ attribute parts.
    part 6 statistic_of parts (λ statistic parts.
    no_part 7 parts (paired (record { kind = kind; percent = percent; significance = significance; attribute = attribute; statistic = statistic }))))))))

-- the notation that a word writes, or the first refusal
abbrev pub notation_of : List ℕ → Result Notation NotationError
notation_of word = notation_of_parts (parts_of word)
