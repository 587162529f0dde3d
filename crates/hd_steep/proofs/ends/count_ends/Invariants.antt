use Rattle.std.proofs.Common.{◌≡◌, ◌<◌, ◌≤◌, ℕ, length, slice_index}
use Rattle.hd_steep.specs.Numbering.{root_of, IsLabelOf}
use Rattle.hd_steep.proofs.ends.count_ends.Given as goal

-- the numbers so far, and the links after them
abbrev pub invariant-loop-index : goal.invariant-loop-index
invariant-loop-index g l = let m = g.G.Heights.map l._grid in record {
  whole : length l.links ≡ length l.fn.links;
  before : (k : ℕ) → k < l.index → IsLabelOf m g.S.Side.NAME k (root_of l._pits (slice_index l.links k));
  after : (k : ℕ) → l.index ≤ k → slice_index l.links k ≡ slice_index l.fn.links k;
}
