use Rattle.std.proofs.Common.{◌≡◌, ◌⊎◌, ◌<◌, ◌≤◌, slice_index}
use Rattle.hd_map.specs.Map.{cell_count}
use Rattle.hd_steep.specs.Ends.{AreEndLinks, KeepEnds, LeadsToEnd}
use Rattle.hd_steep.proofs.EndLinks.{way_depth}
use Rattle.hd_steep.proofs.leading.lead_to.Given as goal

-- what is left of the way leads to the end, and the start does, once it is passed
abbrev pub invariant-walk : goal.invariant-walk
invariant-walk g l = let m = g.G.Heights.map l._grid in record {
  links : AreEndLinks m g.S.Side.NAME l._pits l.links;
  end : l.here < cell_count m.size → LeadsToEnd m g.S.Side.NAME l._pits l.here l.«end»;
  kept : KeepEnds m l.fn.links l.links;
  led : (l.here ≡ l.start) ⊎ (cell_count m.size ≤ slice_index l.links l.start);
}

abbrev pub decreases-walk : goal.decreases-walk
decreases-walk g l = way_depth (g.G.Heights.map l._grid) g.S.Side.NAME l.here
