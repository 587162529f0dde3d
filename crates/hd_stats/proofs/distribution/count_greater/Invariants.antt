use Rattle.std.proofs.Common.{◌≡◌, ◌≤◌, take}
use Rattle.hd_stats.specs.Distribution.{greater}
use Rattle.hd_stats.proofs.distribution.count_greater.Given as goal

abbrev pub invariant-values : goal.invariant-values
invariant-values l = record {
  count : l.count ≡ greater l.bound (take l.value-index l.values);
  few : l.count ≤ l.value-index;
}
