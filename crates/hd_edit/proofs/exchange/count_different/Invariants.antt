use Rattle.std.proofs.Common.{◌≡◌, ◌≤◌}
use Rattle.hd_map.specs.Encoding.{values_of}
use Rattle.hd_edit.specs.Exchange.{different}
use Rattle.hd_edit.proofs.exchange.count_different.Given as goal

abbrev pub invariant-loop-place : goal.invariant-loop-place
invariant-loop-place g l = record {
  counted : l.count ≡ different (values_of g.L.Lane.code l.olds) (values_of g.L.Lane.code l.news) l.place;
  few : l.count ≤ l.place;
}
