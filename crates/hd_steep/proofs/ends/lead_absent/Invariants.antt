use Rattle.std.proofs.Common.{◌≡◌, ◌≢◌, ◌<◌, ◌≤◌, ℕ, length, slice_index}
use Rattle.hd_steep.specs.Links.{no_link}
use Rattle.hd_steep.proofs.ends.lead_absent.Given as goal

abbrev pub invariant-loop-index : goal.invariant-loop-index
invariant-loop-index l = record {
  whole : length l.links ≡ length l.fn.links;
  absent : (k : ℕ) → k < l.index → slice_index l.fn.links k ≡ no_link → slice_index l.links k ≡ l.last;
  others : (k : ℕ) → slice_index l.fn.links k ≢ no_link → slice_index l.links k ≡ slice_index l.fn.links k;
  after : (k : ℕ) → l.index ≤ k → slice_index l.links k ≡ slice_index l.fn.links k;
}
