-- What the words of a line write, or the first of them that has not its form.
use Rattle.std.specs.Prelude.{◌+◌, ◌==◌, ◌&&◌, ◌||◌, ℕ, ℤ, pos, negsuc, Bool, nat_le, int_le, List, [], ◌∷◌, length, codes, Option, Some, None, Result, Ok, Err, if◌then◌else◌}
use Rattle.std.specs.Char.{is_ascii_alphanumeric}
use Rattle.std.specs.List.{list_all}
use Rattle.std.specs.Str.{bytes_eq}
use Rattle.hd_map.specs.declared.types.Adjacency.{Adjacency}
use Rattle.hd_map.specs.declared.types.Adjacency.TheVariants.{Four, Six, Eight}
use Rattle.hd_map.specs.declared.types.Pos.{Pos}
use Rattle.hd_map.specs.declared.types.SideName.{SideName}
use Rattle.hd_map.specs.declared.types.SideName.TheVariants.{Dales, Hills}
use Rattle.hd_num.specs.declared.percent.Percent.{Percent}
use Rattle.hd_num.specs.Percent.{percent_of}
use Rattle.hd_num.specs.Whole.{count_of, whole_of, i64_of}
use Rattle.hd_script.specs.declared.command.LineError.{LineError}
use Rattle.hd_script.specs.declared.command.LineError.TheVariants.{BadWord}

-- what is made of what was read, or the refusal of what was not
abbrev pub and_then : {A B : Type 0} → Result A LineError → (A → Result B LineError) → Result B LineError
and_then (Ok x) make = make x
and_then (Err error) make = Err error

-- what the word of a number writes, or that it has not its form
abbrev pub read_or_bad : {A : Type 0} → ℕ → Option A → Result A LineError
read_or_bad number (Some x) = Ok x
read_or_bad number None = Err (BadWord number)

-- `D` or `H`
abbrev pub side_of : List ℕ → Option SideName
side_of word = if bytes_eq word (codes "D") then Some Dales else if bytes_eq word (codes "H") then Some Hills else None

-- `4`, `6` or `8`
abbrev pub adjacency_of : List ℕ → Option Adjacency
adjacency_of word = if bytes_eq word (codes "4") then Some Four else if bytes_eq word (codes "6") then Some Six else if bytes_eq word (codes "8") then Some Eight else None

-- a letter, a digit, `_` or `-`
abbrev pub is_name_byte : ℕ → Bool
is_name_byte byte = is_ascii_alphanumeric byte || byte == 95 || byte == 45

-- a name: 1 to 32 letters, digits, `_` and `-`
abbrev pub name_of : List ℕ → Option (List ℕ)
name_of word = if nat_le 1 (length word) && nat_le (length word) 32 && list_all is_name_byte word then Some word else None

-- an entry within -4,294,967,295 and 4,294,967,295
abbrev pub entry_within : ℤ → Option (Option ℤ)
entry_within z = if int_le (negsuc 4294967294) z && int_le z (pos 4294967295) then Some (Some z) else None

abbrev pub entry_of_number : Option ℤ → Option (Option ℤ)
entry_of_number None = None
entry_of_number (Some z) = entry_within z

-- an entry of an element: `-` for none, or a number
abbrev pub entry_of : List ℕ → Option (Option ℤ)
entry_of word = if bytes_eq word (codes "-") then Some None else entry_of_number (i64_of (whole_of word))

abbrev pub count_word : ℕ → List ℕ → Result ℕ LineError
count_word number word = read_or_bad number (count_of word)

abbrev pub whole_word : ℕ → List ℕ → Result ℤ LineError
whole_word number word = read_or_bad number (i64_of (whole_of word))

abbrev pub side_word : ℕ → List ℕ → Result SideName LineError
side_word number word = read_or_bad number (side_of word)

abbrev pub adjacency_word : ℕ → List ℕ → Result Adjacency LineError
adjacency_word number word = read_or_bad number (adjacency_of word)

unfoldable pub percent_word : ℕ → List ℕ → Result Percent LineError
percent_word number word = read_or_bad number (percent_of word)

-- a number of bins, from 1 to 64
abbrev pub bins_within : ℕ → Option ℕ
bins_within n = if nat_le 1 n && nat_le n 64 then Some n else None

abbrev pub bins_of_count : Option ℕ → Option ℕ
bins_of_count None = None
bins_of_count (Some n) = bins_within n

abbrev pub bins_word : ℕ → List ℕ → Result ℕ LineError
bins_word number word = read_or_bad number (bins_of_count (count_of word))

abbrev pub name_word : ℕ → List ℕ → Result (List ℕ) LineError
name_word number word = read_or_bad number (name_of word)

abbrev pub entry_word : ℕ → List ℕ → Result (Option ℤ) LineError
entry_word number word = read_or_bad number (entry_of word)

-- a column and a profile, the column being the word of the number
abbrev pub position_words : ℕ → List ℕ → List ℕ → Result Pos LineError
position_words number x y = and_then (count_word number x) (λ column. and_then (count_word (number + 1) y) (λ profile. Ok (record { x = column; y = profile })))

-- the two corners of a rectangle, the first column being word 2
abbrev pub corner_words : List ℕ → List ℕ → List ℕ → List ℕ → Result (Pos × Pos) LineError
corner_words x y x' y' = and_then (position_words 2 x y) (λ from. and_then (position_words 4 x' y') (λ to. Ok (from, to)))

-- the entries, the first being the word of the number
abbrev pub entry_words : ℕ → List (List ℕ) → Result (List (Option ℤ)) LineError
entry_words number [] = Ok []
entry_words number (word ∷ words) = and_then (entry_word number word) (λ entry. and_then (entry_words (number + 1) words) (λ entries. Ok (entry ∷ entries)))
