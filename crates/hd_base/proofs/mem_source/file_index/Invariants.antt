use Rattle.std.proofs.Common.{◌≡◌, drop}
use Rattle.hd_base.specs.MemSource.{file_named}
use Rattle.hd_base.proofs.mem_source.file_index.Given as goal

abbrev pub invariant-files : goal.invariant-files
invariant-files l = file_named l.files l.name ≡ file_named (drop l.index l.files) l.name
