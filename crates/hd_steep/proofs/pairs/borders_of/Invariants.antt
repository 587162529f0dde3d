use Rattle.std.proofs.Common.{length, ◌≡◌, []}
use Rattle.hd_steep.proofs.Borders.{AreBordersBefore}
use Rattle.hd_steep.proofs.pairs.borders_of.Given as goal

abbrev pub invariant-places : goal.invariant-places
invariant-places g l = record {
  borders : AreBordersBefore (g.G.Heights.map l.grid) g.S.Side.NAME l.places l.place l.borders.items;
  none : l.found.borders.items ≡ [];
  long : length l.found.slots.items ≡ l.room;
}
