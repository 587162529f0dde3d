-- How the lines of a certificate are kept: their numbers, and which of these each line names.
use Rattle.std.specs.Prelude.{ℕ, Bool, true, false, List, Option, Some, None, if◌then◌else◌}
use Rattle.std.specs.Simd.Lanes.{zip2}
use Rattle.hd_audit.specs.declared.line_list.Named.{Named}
use Rattle.hd_audit.specs.declared.line_list.Named.TheVariants.{Neither, Parent, Cut, Both}
use Rattle.hd_audit.specs.declared.line_list.LineNumbers.{LineNumbers}
use Rattle.hd_audit.specs.declared.types.AuditLine.{AuditLine}

-- whether a parent is named
abbrev pub names_parent : Named → Bool
names_parent Neither = false
names_parent Parent = true
names_parent Cut = false
names_parent Both = true

-- whether a cut is named
abbrev pub names_cut : Named → Bool
names_cut Neither = false
names_cut Parent = false
names_cut Cut = true
names_cut Both = true

-- a number, where it is named
abbrev pub number_if : Bool → ℕ → Option ℕ
number_if named number = if named then Some number else None

-- the line that is kept so
abbrev pub line_kept : LineNumbers → Named → AuditLine
line_kept numbers named = record { index = numbers.index; parent = number_if (names_parent named) numbers.parent; cut = number_if (names_cut named) numbers.cut }

-- the lines that are kept so
abbrev pub lines_kept : List LineNumbers → List Named → List AuditLine
lines_kept numbers named = zip2 line_kept numbers named
