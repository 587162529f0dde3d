use Rattle.std.proofs.Common.{◌≡◌, ◌<◌, ℕ, true, map}
use Rattle.hd_map.specs.Rank.{below_by}
use Rattle.hd_graph.specs.Flood.{AreWhole, IsLineSoFar, is_done}
use Rattle.hd_graph.specs.Links.{pass_of}
use Rattle.hd_graph.proofs.flooding.visit_all.Given as goal

abbrev pub invariant-loop-start : goal.invariant-loop-start
invariant-loop-start g l = record {
  whole : AreWhole l.links l.done.items;
  line : IsLineSoFar (below_by g.S.Side.NAME) l.lows (map (pass_of l.lows) l.links) l.done.items l.stops;
  all : (v : ℕ) → v < l.start → is_done l.done.items v ≡ true;
}
