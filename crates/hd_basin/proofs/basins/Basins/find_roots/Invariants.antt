use Rattle.hd_basin.specs.Known.{AreKnown, AreKnownTo}
use Rattle.hd_basin.specs.Roots.{nodes_before}
use Rattle.hd_basin.proofs.basins.Basins.find_roots.Given as goal

abbrev pub invariant-tiles : goal.invariant-tiles
invariant-tiles g l = AreKnown g.S.Side.NAME l.self l.roots × AreKnownTo l.roots.numbers (nodes_before l.self.parts l.tile)
