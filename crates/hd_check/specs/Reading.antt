-- The certificate that a text holds, or the first line that has not its form in its place.
use Rattle.std.specs.Prelude.{◌+◌, ℕ, ℤ, zero, suc, List, [], ◌∷◌, map, codes, Option, Some, None, Result, Ok, Err, if◌then◌else◌}
use Rattle.std.specs.Str.{bytes_eq}
use Rattle.hd_map.specs.declared.types.Adjacency.{Adjacency}
use Rattle.hd_map.specs.declared.types.Adjacency.TheVariants.{Four, Six, Eight}
use Rattle.hd_map.specs.declared.types.Pos.{Pos}
use Rattle.hd_map.specs.declared.types.SideName.{SideName}
use Rattle.hd_map.specs.declared.types.SideName.TheVariants.{Dales, Hills}
use Rattle.hd_num.specs.Lines.{lines_of, words_of}
use Rattle.hd_num.specs.Whole.{count_of, whole_of, i64_of}
use Rattle.hd_check.specs.declared.types.Certificate.{Certificate}
use Rattle.hd_check.specs.declared.words.CertificateHead.{CertificateHead}
use Rattle.hd_check.specs.declared.types.CertificateError.{CertificateError}
use Rattle.hd_check.specs.declared.types.CertificateError.TheVariants.{BadLine}

-- lines by their words, and the number of the first of them
pub record Lines : Type 0 where
  pub number : ℕ
  pub lines : List (List (List ℕ))

-- what is read from lines and the lines that are left, or the first line that has not its form
abbrev pub Read : Type 0 → Type 0
Read A = Result (A × Lines) CertificateError

-- what was read, and then what is read from the lines that are left
abbrev pub and_then : {A B : Type 0} → Read A → (A → Lines → Read B) → Read B
and_then (Ok x) next = next x.0 x.1
and_then (Err e) next = Err e

-- what a line of a number gives, before more lines
abbrev pub line_gives : {A : Type 0} → ℕ → List (List (List ℕ)) → Option A → Read A
line_gives number more (Some x) = Ok (x, record { number = number + 1; lines = more })
line_gives number more None = Err (BadLine number)

-- the first line, by its form. Without a line the number is one more than that of the last line
abbrev pub line_among : {A : Type 0} → (List (List ℕ) → Option A) → ℕ → List (List (List ℕ)) → Read A
line_among form number [] = Err (BadLine number)
line_among form number (words ∷ more) = line_gives number more (form words)

abbrev pub line_as : {A : Type 0} → (List (List ℕ) → Option A) → Lines → Read A
line_as form rest = line_among form rest.number rest.lines

-- `D` or `H`
abbrev pub side_of : List ℕ → Option SideName
side_of word = if bytes_eq word (codes "D") then Some Dales else if bytes_eq word (codes "H") then Some Hills else None

-- `4`, `6` or `8`
abbrev pub adjacency_of : List ℕ → Option Adjacency
adjacency_of word = if bytes_eq word (codes "4") then Some Four else if bytes_eq word (codes "6") then Some Six else if bytes_eq word (codes "8") then Some Eight else None

-- a side and a setting, where both have their form
abbrev pub head_of_parts : Option SideName → Option Adjacency → Option CertificateHead
head_of_parts (Some side) (Some adjacency) = Some (record { side = side; adjacency = adjacency })
head_of_parts side adjacency = None

-- `certificate`, a side and a setting
abbrev pub head_of : List ℕ → List ℕ → List ℕ → Option CertificateHead
head_of name side adjacency = if bytes_eq name (codes "certificate") then head_of_parts (side_of side) (adjacency_of adjacency) else None

-- `certificate S N`
abbrev pub head_form : List (List ℕ) → Option CertificateHead
head_form (name ∷ side ∷ adjacency ∷ []) = head_of name side adjacency
head_form words = None

-- a point, where both numbers are counts
abbrev pub point_of_counts : Option ℕ → Option ℕ → Option Pos
point_of_counts (Some x) (Some y) = Some (record { x = x; y = y })
point_of_counts x y = None

-- `X Y`
abbrev pub point_form : List (List ℕ) → Option Pos
point_form (x ∷ y ∷ []) = point_of_counts (count_of x) (count_of y)
point_form words = None

-- `from X Y` or `to X Y`, by the first word
abbrev pub end_point_form : List ℕ → List (List ℕ) → Option Pos
end_point_form key [] = None
end_point_form key (name ∷ words) = if bytes_eq name key then point_form words else None

-- a saddle, where its point and its height have their form
abbrev pub saddle_of_parts : Option Pos → Option ℤ → Option (Option (Pos × ℤ))
saddle_of_parts (Some p) (Some h) = Some (Some (p, h))
saddle_of_parts p h = None

-- `none`
abbrev pub none_of : List ℕ → Option (Option (Pos × ℤ))
none_of word = if bytes_eq word (codes "none") then Some None else None

-- `X Y HEIGHT`
abbrev pub saddle_of_words : List ℕ → List ℕ → List ℕ → Option (Option (Pos × ℤ))
saddle_of_words x y height = saddle_of_parts (point_of_counts (count_of x) (count_of y)) (i64_of (whole_of height))

-- `none`, or `X Y HEIGHT`
abbrev pub saddle_words : List (List ℕ) → Option (Option (Pos × ℤ))
saddle_words (word ∷ []) = none_of word
saddle_words (x ∷ y ∷ height ∷ []) = saddle_of_words x y height
saddle_words words = None

-- `saddle none` or `saddle X Y HEIGHT`
abbrev pub saddle_form : List (List ℕ) → Option (Option (Pos × ℤ))
saddle_form [] = None
saddle_form (name ∷ words) = if bytes_eq name (codes "saddle") then saddle_words words else None

-- `path N` or `cut N`, by the first word
abbrev pub count_form : List ℕ → List (List ℕ) → Option ℕ
count_form key (name ∷ count ∷ []) = if bytes_eq name key then count_of count else None
count_form key words = None

-- `end`
abbrev pub end_form : List (List ℕ) → Option (Unit {0})
end_form (name ∷ []) = if bytes_eq name (codes "end") then Some tt else None
end_form words = None

-- so many lines of a form
abbrev pub items_in : {A : Type 0} → (List (List ℕ) → Option A) → ℕ → Lines → Read (List A)
items_in form zero rest = Ok ([], rest)
items_in form (suc n) rest = and_then (line_as form rest) (λ x rest. and_then (items_in form n rest) (λ xs rest. Ok (x ∷ xs, rest)))

-- so many lines `X Y`
abbrev pub points_in : ℕ → Lines → Read (List Pos)
points_in n rest = items_in point_form n rest

-- a line with a number, and then so many lines `X Y`
abbrev pub counted_in : List ℕ → Lines → Read (List Pos)
counted_in key rest = and_then (line_as (count_form key) rest) points_in

-- a path, where there is a saddle
abbrev pub path_in : Option (Pos × ℤ) → Lines → Read (List Pos)
path_in (Some s) rest = counted_in (codes "path") rest
path_in None rest = Ok ([], rest)

-- only lines without words
abbrev pub blank_lines_in : ℕ → List (List (List ℕ)) → Read (Unit {0})
blank_lines_in number [] = Ok (tt, record { number = number; lines = [] })
blank_lines_in number ([] ∷ more) = blank_lines_in (number + 1) more
blank_lines_in number ((word ∷ words) ∷ more) = Err (BadLine number)

-- `end`, and then only lines without words
abbrev pub end_in : Lines → Read (Unit {0})
end_in rest = and_then (line_as end_form rest) (λ _ rest. blank_lines_in rest.number rest.lines)

-- the lines of a certificate, in their order
abbrev pub certificate_in : Lines → Read Certificate
certificate_in rest = and_then (line_as head_form rest) (λ head rest.
    and_then (line_as (end_point_form (codes "from")) rest) (λ from rest.
    and_then (line_as (end_point_form (codes "to")) rest) (λ to rest.
    and_then (line_as saddle_form rest) (λ saddle rest.
    and_then (path_in saddle rest) (λ path rest.
    and_then (counted_in (codes "cut") rest) (λ cut rest.
    and_then (end_in rest) (λ _ rest.
    Ok (record { side = head.side; adjacency = head.adjacency; from = from; to = to; saddle = saddle; path = path; cut = cut }, rest))))))))

-- what was read, without the lines that are left
abbrev pub value_of : {A : Type 0} → Read A → Result A CertificateError
value_of (Ok x) = Ok x.0
value_of (Err e) = Err e

-- the lines of a text, from line 1 on
abbrev pub lines_in : List ℕ → Lines
lines_in bytes = record { number = 1; lines = map words_of (lines_of bytes) }

-- the certificate that a text holds, or the first line that has not its form in its place
abbrev pub certificate_of : List ℕ → Result Certificate CertificateError
certificate_of bytes = value_of (certificate_in (lines_in bytes))
