use Rattle.std.proofs.Common.{◌<◌, ◌+◌, ℕ}
use Rattle.hd_map.specs.Neighbour.{Neighbour}
use Rattle.hd_check.specs.Rules.{point_of}
use Rattle.hd_check.proofs.path.stray_of.Given as goal

abbrev pub invariant-loop-k : goal.invariant-loop-k
invariant-loop-k g l = (i : ℕ) → i + 1 < l.k → Neighbour (g.G.Heights.map l.surface) (point_of l.path i) (point_of l.path (i + 1))
