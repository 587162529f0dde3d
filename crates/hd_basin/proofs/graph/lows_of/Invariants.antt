use Rattle.std.proofs.Common.{◌≡◌, take}
use Rattle.std.specs.List.{flat_map}
use Rattle.hd_basin.specs.Graph.{lows_in}
use Rattle.hd_basin.proofs.graph.lows_of.Given as goal

abbrev pub invariant-tiles : goal.invariant-tiles
invariant-tiles l = l.lows ≡ flat_map lows_in (take l.tile l.stock)
