use Rattle.std.proofs.Common.{◌≡◌, ◌<◌, ◌≤◌, ℕ, length, slice_index}
use Rattle.hd_steep.proofs.ends.push_ends.Given as goal

abbrev pub invariant-loop-end : goal.invariant-loop-end
invariant-loop-end l = record {
  whole : length l.links.items ≡ l.«end»;
  kept : (k : ℕ) → k < length l.fn.links.items → slice_index l.links.items k ≡ slice_index l.fn.links.items k;
  ends : (k : ℕ) → length l.fn.links.items ≤ k → k < length l.links.items → slice_index l.links.items k ≡ k;
}
