use Rattle.std.proofs.Common.{◌≡◌, ◌+◌, ◌*◌, ◌-◌, ℕ, true, length, map}
use Rattle.hd_map.specs.Rank.{below_by}
use Rattle.hd_graph.specs.Flood.{IsLineSoFar, IsReached, is_done}
use Rattle.hd_graph.specs.Links.{pass_of}
use Rattle.hd_graph.specs.Onward.{IsOnward}
use Rattle.hd_graph.proofs.Reached.{undone}
use Rattle.hd_graph.proofs.flooding.visit_part.Given as goal

abbrev pub invariant-loop-place : goal.invariant-loop-place
invariant-loop-place g l = record {
  reached : (x : ℕ) × (t : ℕ) × IsReached l.links l.done x t × IsOnward l.links x t l.place;
  line : IsLineSoFar (below_by g.S.Side.NAME) l.lows (map (pass_of l.lows) l.links) l.done l.stops;
  start : is_done l.done l.start ≡ true;
  kept : (v : ℕ) → is_done l.fn.done v ≡ true → is_done l.done v ≡ true;
}

abbrev pub decreases-loop-place : goal.decreases-loop-place
decreases-loop-place g l = undone l.done * (length l.links + 1) + (length l.links - l.place)
