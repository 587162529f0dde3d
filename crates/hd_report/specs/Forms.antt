-- Why a line has not its form.
use Rattle.std.specs.Prelude.{◌++◌, ℕ, List, [], codes, decimal}
use Rattle.hd_script.specs.declared.command.LineError.{LineError}
use Rattle.hd_script.specs.declared.command.LineError.TheVariants.{Memory, UnknownCommand, WordCount, BadWord, LineTooLong}

-- want of memory has no text
abbrev pub form_text : LineError → List ℕ
form_text Memory = []
form_text UnknownCommand = codes "unknown command"
form_text WordCount = codes "wrong number of words"
form_text (BadWord k) = codes "word " ++ decimal k ++ codes " has not its form"
form_text LineTooLong = codes "line too long"
