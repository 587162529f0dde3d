use Rattle.std.proofs.Common.{◌+◌}
use Rattle.hd_basin.specs.Known.{AreKnown, AreKnownTo}
use Rattle.hd_basin.specs.Roots.{nodes_before}
use Rattle.hd_basin.proofs.basins.Basins.number_tile.Given as goal

abbrev pub invariant-numbers : goal.invariant-numbers
invariant-numbers g l = AreKnown g.S.Side.NAME l.self l.roots × AreKnownTo l.roots.numbers (nodes_before l.self.parts l.tile + l.number)
