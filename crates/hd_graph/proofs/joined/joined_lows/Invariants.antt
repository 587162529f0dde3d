use Rattle.std.proofs.Common.{◌≡◌, length}
use Rattle.hd_map.specs.Map.{IsMap, Map}
use Rattle.hd_graph.specs.Classes.{AreFalling, AreOneClass, IsLeast}
use Rattle.hd_graph.specs.Tells.{AreClassesBelow, AreMergesOf}
use Rattle.hd_graph.proofs.JoinedBelow.{AreJoinedFirst}
use Rattle.hd_graph.proofs.joined.joined_lows.Given as goal

abbrev pub invariant-loop-low : goal.invariant-loop-low
invariant-loop-low g l = record {
  falling : AreFalling l.classes.parents.items;
  long : length l.classes.parents.items ≡ length l.lows;
  below : (m : Map) → IsMap m → AreMergesOf m g.S.Side.NAME l.lows l.merges → AreClassesBelow m g.S.Side.NAME l.lows l.fn.level l.classes.parents.items;
  least : IsLeast l.classes.parents.items l.own;
  own : AreOneClass l.classes.parents.items l.from l.own;
  told : length l.joined.items ≡ l.low;
  each : (m : Map) → IsMap m → AreMergesOf m g.S.Side.NAME l.lows l.merges → AreJoinedFirst m g.S.Side.NAME l.lows l.fn.level l.from l.low l.joined.items;
}
