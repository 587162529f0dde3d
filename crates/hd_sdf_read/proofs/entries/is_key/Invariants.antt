use Rattle.std.proofs.Common.{◌≡◌, true, take}
use Rattle.std.specs.List.{list_all}
use Rattle.hd_sdf_read.specs.Entries.{is_printed}
use Rattle.hd_sdf_read.proofs.entries.is_key.Given as goal

abbrev pub invariant-bytes : goal.invariant-bytes
invariant-bytes l = list_all is_printed (take l.byte-index l.text) ≡ true
