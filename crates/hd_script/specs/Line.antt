-- The command of a line, or why it has none.
use Rattle.std.specs.Prelude.{ℕ, ◌==◌, nat_lt, Bool, false, List, [], ◌∷◌, length, Option, Some, None, Result, Ok, Err, if◌then◌else◌}
use Rattle.hd_num.specs.Lines.{words_of}
use Rattle.hd_script.specs.declared.command.Command.{Command}
use Rattle.hd_script.specs.declared.command.LineError.{LineError}
use Rattle.hd_script.specs.declared.command.LineError.TheVariants.{LineTooLong}
use Rattle.hd_script.specs.CommandTable.{commands, read_by}

-- the most bytes of a line
abbrev pub longest_line : ℕ
longest_line = 4096

-- whether a word begins with `;`
abbrev pub is_comment : List ℕ → Bool
is_comment [] = false
is_comment (byte ∷ more) = byte == 59

-- a line that is not skipped gives a command
abbrev pub not_skipped : Result Command LineError → Result (Option Command) LineError
not_skipped (Ok command) = Ok (Some command)
not_skipped (Err error) = Err error

-- what the words of a line give: none where there are no words, or the first begins with `;`
abbrev pub words_give : List (List ℕ) → Result (Option Command) LineError
words_give [] = Ok None
words_give (name ∷ words) = if is_comment name then Ok None else not_skipped (read_by commands name words)

-- what a line gives: its command, none where it is skipped, or its first refusal
abbrev pub script_line : List ℕ → Result (Option Command) LineError
script_line line = if nat_lt longest_line (length line) then Err LineTooLong else words_give (words_of line)
