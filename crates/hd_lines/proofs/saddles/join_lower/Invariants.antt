use Rattle.std.proofs.Common.{length, ◌-◌, ◌≡◌, ◌≤◌}
use Rattle.hd_map.specs.Rank.{below_by}
use Rattle.hd_graph.specs.Classes.{AreFalling}
use Rattle.hd_lines.specs.NumberedBorders.{AreJoinedTo, AreLower}
use Rattle.hd_lines.proofs.saddles.join_lower.Given as goal

abbrev pub invariant-loop-place : goal.invariant-loop-place
invariant-loop-place g l = record {
  inside : l.place ≤ length l.borders;
  lower : AreLower (below_by g.S.Side.NAME) l.borders l.place l.level;
  falling : AreFalling l.classes.parents.items;
  long : length l.classes.parents.items ≡ length l.fn.classes.parents.items;
  joined : AreJoinedTo l.borders l.place l.classes.parents.items;
}

abbrev pub decreases-loop-place : goal.decreases-loop-place
decreases-loop-place g l = length l.borders - l.place
