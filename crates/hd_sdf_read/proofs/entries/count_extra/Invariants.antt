use Rattle.std.proofs.Common.{◌≡◌, ◌≤◌, ◌+◌, drop, length}
use Rattle.hd_sdf_read.specs.Entries.{extra_entries}
use Rattle.hd_sdf_read.proofs.entries.count_extra.Given as goal

abbrev pub invariant-entries : goal.invariant-entries
invariant-entries l = record {
  few : l.count ≤ l.entry-index;
  counted : l.count + length (extra_entries (drop l.entry-index l.entries)) ≡ length (extra_entries l.entries);
}
