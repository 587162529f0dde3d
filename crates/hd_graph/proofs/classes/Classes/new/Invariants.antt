use Rattle.std.proofs.Common.{◌≡◌, ℕ, length, slice_get, Some}
use Rattle.hd_graph.proofs.classes.Classes.new.Given as goal

abbrev pub invariant-loop-number : goal.invariant-loop-number
invariant-loop-number l = record {
  long : length l.parents.items ≡ l.number;
  own : (x y : ℕ) → slice_get l.parents.items x ≡ Some y → y ≡ x;
}
