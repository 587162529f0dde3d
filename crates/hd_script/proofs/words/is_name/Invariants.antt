use Rattle.std.proofs.Common.{◌≡◌, true, take}
use Rattle.std.specs.List.{list_all}
use Rattle.hd_script.specs.Words.{is_name_byte}
use Rattle.hd_script.proofs.words.is_name.Given as goal

abbrev pub invariant-bytes : goal.invariant-bytes
invariant-bytes l = list_all is_name_byte (take l.byte-index l.word) ≡ true
