use Rattle.std.proofs.Common.{◌≡◌, ℕ, length, slice_get, Some}
use Rattle.hd_graph.proofs.onward.lows_alone.Given as goal

abbrev pub invariant-loop-low : goal.invariant-loop-low
invariant-loop-low l = record {
  long : length l.parts.items ≡ l.low;
  own : (x e : ℕ) → slice_get l.parts.items x ≡ Some e → e ≡ x;
}
