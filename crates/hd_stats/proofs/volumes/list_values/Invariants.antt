use Rattle.hd_stats.specs.Volumes.{AreValues}
use Rattle.hd_stats.proofs.volumes.list_values.Given as goal

abbrev pub invariant-kept : goal.invariant-kept
invariant-kept l = AreValues l.kept l.volumes l.number l.values
