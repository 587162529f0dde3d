use Rattle.std.proofs.Common.{◌≡◌, ◌<◌, ◌==◌, ℕ, length, take, slice_index_or}
use Rattle.std.specs.List.{count_by}
use Rattle.hd_feature.specs.Value.{greatest, least}
use Rattle.hd_stats.specs.Distribution.{bin_of}
use Rattle.hd_stats.proofs.distribution.count_bins.Given as goal

abbrev pub invariant-values : goal.invariant-values
invariant-values l = record {
  whole : length l.counts.items ≡ l.bins;
  each : (k : ℕ) → k < l.bins → slice_index_or l.counts.items k 0 ≡ count_by (λ v. bin_of (least l.values) (greatest l.values) l.bins v == k) (take l.value-index l.values);
}
