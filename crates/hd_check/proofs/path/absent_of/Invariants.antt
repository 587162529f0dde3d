use Rattle.std.proofs.Common.{◌<◌, ℕ}
use Rattle.hd_map.specs.Map.{Present}
use Rattle.hd_check.specs.Rules.{point_of}
use Rattle.hd_check.proofs.path.absent_of.Given as goal

abbrev pub invariant-loop-k : goal.invariant-loop-k
invariant-loop-k g l = (i : ℕ) → i < l.k → Present (g.G.Heights.map l.surface) (point_of l.points i)
