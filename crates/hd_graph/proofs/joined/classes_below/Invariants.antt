use Rattle.std.proofs.Common.{◌≡◌, length}
use Rattle.hd_map.specs.Map.{Map}
use Rattle.hd_graph.specs.Classes.{AreFalling}
use Rattle.hd_graph.specs.Tells.{AreMergesOf}
use Rattle.hd_graph.proofs.JoinedBelow.{AreJoinedTo, AreWithin}
use Rattle.hd_graph.proofs.joined.classes_below.Given as goal

abbrev pub invariant-loop-place : goal.invariant-loop-place
invariant-loop-place g l = record {
  falling : AreFalling l.classes.parents.items;
  long : length l.classes.parents.items ≡ length l.lows;
  joined : AreJoinedTo l.merges l.place l.classes.parents.items;
  within : (m : Map) → AreMergesOf m g.S.Side.NAME l.lows l.merges → AreWithin m g.S.Side.NAME l.level l.lows l.classes.parents.items;
}
