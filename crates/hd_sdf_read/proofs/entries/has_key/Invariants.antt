use Rattle.std.proofs.Common.{◌≡◌, drop}
use Rattle.hd_sdf_read.specs.Entries.{has_key}
use Rattle.hd_sdf_read.proofs.entries.has_key.Given as goal

abbrev pub invariant-entries : goal.invariant-entries
invariant-entries l = has_key l.key (drop l.entry-index l.entries) ≡ has_key l.key l.entries
