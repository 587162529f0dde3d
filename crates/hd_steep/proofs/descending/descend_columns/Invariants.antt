use Rattle.std.proofs.Common.{◌≡◌, ◌≤◌, ◌*◌, [], take}
use Rattle.std.specs.Prelude.{Contains}
use Rattle.hd_steep.specs.Descended.{Descends}
use Rattle.hd_steep.proofs.descending.descend_columns.Given as goal

-- the points of the columns so far
abbrev pub invariant-loop-x : goal.invariant-loop-x
invariant-loop-x g l = record {
  descends : Descends (g.G.Heights.map l.grid) g.S.Side.NAME (λ u. (u.y ≡ l.y) × Contains (take l.x-index l.columns) u.x) [] (take l.count l.room);
  few : l.count ≤ 8 * l.x-index;
}
