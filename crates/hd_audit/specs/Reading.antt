-- The pruning certificate that a text holds, or the first line that has not its form in its place.
use Rattle.std.specs.Prelude.{ℕ, List, [], ◌∷◌, codes, Option, Some, None, Result, Ok, if◌then◌else◌}
use Rattle.std.specs.Str.{bytes_eq}
use Rattle.hd_map.specs.declared.types.Adjacency.{Adjacency}
use Rattle.hd_map.specs.declared.types.SideName.{SideName}
use Rattle.hd_num.specs.declared.percent.Percent.{Percent}
use Rattle.hd_num.specs.Percent.{percent_of}
use Rattle.hd_num.specs.Whole.{count_of}
use Rattle.hd_check.specs.declared.types.CertificateError.{CertificateError}
use Rattle.hd_check.specs.Reading.{Lines, Read, adjacency_of, and_then, count_form, end_in, items_in, line_as, lines_in, side_of, value_of}
use Rattle.hd_audit.specs.declared.words.AuditHead.{AuditHead}
use Rattle.hd_audit.specs.declared.types.Audit.{Audit}
use Rattle.hd_audit.specs.declared.types.AuditLine.{AuditLine}

-- a side, a percent and a setting, where each has its form
abbrev pub head_of_parts : Option SideName → Option Percent → Option Adjacency → Option AuditHead
head_of_parts (Some side) (Some percent) (Some adjacency) = Some (record { side = side; percent = percent; adjacency = adjacency })
head_of_parts side percent adjacency = None

-- `pruning`, a side, a percent and a setting
abbrev pub head_of : List ℕ → List ℕ → List ℕ → List ℕ → Option AuditHead
head_of name side percent adjacency = if bytes_eq name (codes "pruning") then head_of_parts (side_of side) (percent_of percent) (adjacency_of adjacency) else None

-- `pruning S P N`
abbrev pub head_form : List (List ℕ) → Option AuditHead
head_form (name ∷ side ∷ percent ∷ adjacency ∷ []) = head_of name side percent adjacency
head_form words = None

-- a count that is there
abbrev pub given : Option ℕ → Option (Option ℕ)
given (Some n) = Some (Some n)
given None = None

-- a count, or none for `-`
abbrev pub count_or_none : List ℕ → Option (Option ℕ)
count_or_none word = if bytes_eq word (codes "-") then Some None else given (count_of word)

-- a line, where its words have their form
abbrev pub line_of_parts : Option ℕ → Option (Option ℕ) → Option (Option ℕ) → Option AuditLine
line_of_parts (Some index) (Some parent) (Some cut) = Some (record { index = index; parent = parent; cut = cut })
line_of_parts index parent cut = None

-- `INDEX PARENT CUT`
abbrev pub point_form : List (List ℕ) → Option AuditLine
point_form (index ∷ parent ∷ cut ∷ []) = line_of_parts (count_of index) (count_or_none parent) (count_or_none cut)
point_form words = None

-- so many lines `INDEX PARENT CUT`
abbrev pub points_in : ℕ → Lines → Read (List AuditLine)
points_in n rest = items_in point_form n rest

-- `points M`, and then M lines `INDEX PARENT CUT`
abbrev pub counted_in : Lines → Read (List AuditLine)
counted_in rest = and_then (line_as (count_form (codes "points")) rest) points_in

-- the lines of a certificate, in their order
abbrev pub audit_in : Lines → Read Audit
audit_in rest = and_then (line_as head_form rest) (λ head rest. and_then (counted_in rest) (λ lines rest. and_then (end_in rest) (λ _ rest.
    Ok (record { side = head.side; percent = head.percent; adjacency = head.adjacency; lines = lines }, rest))))

-- the certificate that a text holds, or the first line that has not its form in its place
abbrev pub audit_of : List ℕ → Result Audit CertificateError
audit_of bytes = value_of (audit_in (lines_in bytes))
