use Rattle.std.proofs.Common.{◌≡◌, ◌++◌, drop}
use Rattle.hd_sdf_write.specs.Canonical.{extra_lines}
use Rattle.hd_sdf_write.proofs.entry_lines.push_extra.Given as goal

abbrev pub invariant-entries : goal.invariant-entries
invariant-entries l = l.out ++ extra_lines (drop l.entry-index l.extra) ≡ l.initial.out ++ extra_lines l.extra
