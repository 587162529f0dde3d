use Rattle.std.proofs.Common.{◌+◌}
use Rattle.hd_basin.specs.Gathered.{AreGatheredTo}
use Rattle.hd_basin.specs.Roots.{nodes_before}
use Rattle.hd_basin.proofs.basins.Basins.gather_tile.Given as goal

abbrev pub invariant-numbers : goal.invariant-numbers
invariant-numbers g l = AreGatheredTo g.S.Side.NAME l.self l.roots.pits (nodes_before l.self.parts l.tile + l.number) l.extents.items
