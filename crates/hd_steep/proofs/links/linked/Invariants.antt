use Rattle.std.proofs.Common.{◌≡◌, ◌*◌, length}
use Rattle.hd_steep.specs.FirstLinks.{AreFirstLinksFrom}
use Rattle.hd_steep.specs.KeyRows.{AreRowsBefore}
use Rattle.hd_steep.proofs.links.linked.Given as goal

-- the rows before, a row for the next links, and the links so far
abbrev pub invariant-profiles : goal.invariant-profiles
invariant-profiles g l = let m = g.G.Heights.map l.grid in let side = g.S.Side.NAME in record {
  before : AreRowsBefore g.L.Lane.code side m l.y l.rows;
  row_sized : length l.row.items ≡ m.size.points;
  links : AreFirstLinksFrom m side 0 l.links.items;
  count : length l.links.items ≡ l.y * m.size.points;
}
