use Rattle.std.proofs.Common.{◌<◌, ◌≤◌, ℕ, slice_index}
use Rattle.hd_map.specs.Map.{cell_count}
use Rattle.hd_steep.specs.Ends.{AreEndLinks}
use Rattle.hd_steep.proofs.leading.lead_to_ends.Given as goal

-- the links, of which those so far lead to ends
abbrev pub invariant-loop-index : goal.invariant-loop-index
invariant-loop-index g l = let m = g.G.Heights.map l.grid in record {
  links : AreEndLinks m g.S.Side.NAME l.pits l.links;
  led : (k : ℕ) → l.index ≤ k → k < cell_count m.size → cell_count m.size ≤ slice_index l.links k;
}
