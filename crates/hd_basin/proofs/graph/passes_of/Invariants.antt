use Rattle.std.proofs.Common.{◌≡◌, take}
use Rattle.std.specs.List.{flat_map}
use Rattle.hd_basin.specs.Graph.{passes_in}
use Rattle.hd_basin.proofs.graph.passes_of.Given as goal

abbrev pub invariant-tiles : goal.invariant-tiles
invariant-tiles g l = l.passes ≡ flat_map (passes_in g.S.Side.NAME l.stock) (take l.tile l.stock)
