use Rattle.std.proofs.Common.{length, slice_get, Some, ℕ, ◌≡◌, ◌≤◌}
use Rattle.hd_map.specs.Rank.{below_by}
use Rattle.hd_graph.specs.Classes.{AreFalling}
use Rattle.hd_lines.specs.declared.saddles.NumberedBorder.{NumberedBorder}
use Rattle.hd_lines.specs.NumberedBorders.{AreJoinedTo, AreLower, AreMarked}
use Rattle.hd_lines.proofs.saddles.mark_firsts.Given as goal

abbrev pub invariant-borders : goal.invariant-borders
invariant-borders g l = record {
  marked : AreMarked (below_by g.S.Side.NAME) l.borders l.numbers l.border-index l.firsts.items;
  long : length l.classes.parents.items ≡ l.count;
  falling : AreFalling l.classes.parents.items;
  inside : l.joined ≤ length l.borders;
  lower : (j : ℕ) (y : NumberedBorder) → l.border-index ≤ j → slice_get l.borders j ≡ Some y → AreLower (below_by g.S.Side.NAME) l.borders l.joined y.at;
  joined : AreJoinedTo l.borders l.joined l.classes.parents.items;
}
