use Rattle.hd_basin.specs.Gathered.{AreGatheredTo}
use Rattle.hd_basin.specs.Roots.{nodes_before}
use Rattle.hd_basin.proofs.basins.Basins.extents_by.Given as goal

abbrev pub invariant-tiles : goal.invariant-tiles
invariant-tiles g l = AreGatheredTo g.S.Side.NAME l.self l.roots.pits (nodes_before l.self.parts l.tile) l.extents.items
