use Rattle.std.proofs.Common.{◌≡◌, ◌++◌, map, take}
use Rattle.hd_basin.specs.Graph.{in_order}
use Rattle.hd_basin.specs.Parts.{pass_named}
use Rattle.hd_basin.proofs.graph.push_inside.Given as goal

abbrev pub invariant-found : goal.invariant-found
invariant-found g l = l.passes ≡ l.fn.passes ++ map (λ j. in_order g.S.Side.NAME (pass_named l.part.nodes j)) (take l.join-index l.found)
