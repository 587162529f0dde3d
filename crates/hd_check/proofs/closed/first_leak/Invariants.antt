use Rattle.std.proofs.Common.{◌<◌, ℕ, length, None}
use Rattle.hd_map.specs.Map.{place_of}
use Rattle.hd_check.specs.Profiles.{ArePlaces}
use Rattle.hd_check.specs.Rules.{FirstLeak, point_of}
use Rattle.hd_check.proofs.closed.first_leak.Given as goal

abbrev pub invariant-loop-k : goal.invariant-loop-k
invariant-loop-k g l = let m = g.G.Heights.map l.surface in record {
  closed : (i : ℕ) → i < l.k → FirstLeak m l.side l.level l.cut (point_of l.cut i) None;
  places : l.k < length l.cut → ArePlaces m.size l.cut (place_of m.size (point_of l.cut l.k)) l.places;
}
