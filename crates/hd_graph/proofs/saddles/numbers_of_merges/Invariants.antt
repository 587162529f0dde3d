use Rattle.std.proofs.Common.{◌≡◌, length}
use Rattle.hd_graph.proofs.MergeNumbers.{AreNumbersTo}
use Rattle.hd_graph.proofs.saddles.numbers_of_merges.Given as goal

abbrev pub invariant-loop-number : goal.invariant-loop-number
invariant-loop-number l = record {
  long : length l.numbers.items ≡ l.count;
  so : AreNumbersTo l.merges l.number l.numbers.items;
}
