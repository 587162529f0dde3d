use Rattle.std.proofs.Common.{◌≡◌, ◌≤◌, ◌*◌, ◌^◌, take, unsigned_abs}
use Rattle.hd_feature.specs.Value.{total}
use Rattle.hd_feature.proofs.statistic.total.Given as goal

abbrev pub invariant-values : goal.invariant-values
invariant-values l = record {
  sum : l.sum ≡ total (take l.value-index l.values);
  small : unsigned_abs l.sum ≤ l.value-index * 2 ^ 63;
}
