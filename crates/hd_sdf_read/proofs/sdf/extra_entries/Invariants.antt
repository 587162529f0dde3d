use Rattle.std.proofs.Common.{◌≡◌, ◌++◌, drop}
use Rattle.hd_sdf_read.specs.Entries.{extra_entries}
use Rattle.hd_sdf_read.proofs.sdf.extra_entries.Given as goal

abbrev pub invariant-entries : goal.invariant-entries
invariant-entries l = l.extra ++ extra_entries (drop l.entry-index l.entries) ≡ extra_entries l.entries
