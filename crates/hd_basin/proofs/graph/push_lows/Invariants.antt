use Rattle.std.proofs.Common.{◌≡◌, ◌++◌, map, take}
use Rattle.hd_basin.specs.Graph.{as_low}
use Rattle.hd_basin.proofs.graph.push_lows.Given as goal

abbrev pub invariant-numbers : goal.invariant-numbers
invariant-numbers l = l.lows ≡ l.fn.lows ++ map as_low (take l.number l.part.nodes)
