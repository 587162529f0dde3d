use Rattle.std.proofs.Common.{◌≡◌, ◌++◌, take}
use Rattle.std.specs.List.{flat_map}
use Rattle.hd_basin.specs.Graph.{pass_of}
use Rattle.hd_basin.proofs.graph.push_across.Given as goal

abbrev pub invariant-seams : goal.invariant-seams
invariant-seams g l = l.passes ≡ l.fn.passes ++ flat_map (pass_of g.S.Side.NAME l.stock) (take l.seam-index l.seams)
