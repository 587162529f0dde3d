use Rattle.std.proofs.Common.{◌≡◌, drop}
use Rattle.hd_sdf_read.specs.Entries.{value_of}
use Rattle.hd_sdf_read.proofs.entries.value_of.Given as goal

abbrev pub invariant-entries : goal.invariant-entries
invariant-entries l = value_of l.key (drop l.entry-index l.entries) ≡ value_of l.key l.entries
