use Rattle.std.proofs.Common.{◌≡◌, ◌<◌, ◌*◌, length}
use Rattle.hd_steep.specs.Crossings.{AreCrossingsAt}
use Rattle.hd_steep.specs.Descending.{IsBefore}
use Rattle.hd_steep.proofs.crossing.found_crossings.Given as goal

-- it stands before the next profile, and the crossings are those at the points of the profiles so far
abbrev pub invariant-profiles : goal.invariant-profiles
invariant-profiles g l = let m = g.G.Heights.map l.grid in let side = g.S.Side.NAME in record {
  before : IsBefore g.L.Lane.code side m l.y l.descending;
  crossings : AreCrossingsAt m side l.regions.pits (λ u. u.y < l.y) l.crossings.items;
  sized : length l.room.items ≡ 8 * m.size.points;
}
