use Rattle.std.proofs.Common.{◌-◌, ◌≡◌, ◌≤◌, ◌+◌, ◌*◌, drop, length}
use Rattle.hd_map.proofs.PositionOrder.{IsAt}
use Rattle.hd_sdf_write.specs.Data.{data_text}
use Rattle.hd_sdf_write.proofs.cells.write_data.Given as goal

abbrev pub invariant-points : goal.invariant-points
invariant-points g l = record {
  at : IsAt (g.G.Heights.map l.grid).size l.index l.at;
  text : drop l.start l.text ≡ data_text (g.G.Heights.map l.grid) l.index (l.to - l.index);
  least : l.from ≤ l.index;
  most : l.index ≤ l.to;
  room : (l.index - l.from) * 41 ≤ l.start;
  within : l.start + (l.to - l.index) ≤ length l.text;
}

abbrev pub decreases-points : goal.decreases-points
decreases-points g l = l.index - l.from
