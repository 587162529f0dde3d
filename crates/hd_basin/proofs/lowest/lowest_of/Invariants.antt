use Rattle.std.proofs.Common.{take}
use Rattle.std.specs.BTreeMap.{get}
use Rattle.hd_basin.specs.Lowest.{HasLowest, IsNotedOf, pair_cmp}
use Rattle.hd_basin.proofs.lowest.lowest_of.Given as goal

abbrev pub invariant-loop-seam : goal.invariant-loop-seam
invariant-loop-seam g l = HasLowest g.S.Side.NAME (take l.seam-index l.all) (get pair_cmp l.lowest) × IsNotedOf (take l.seam-index l.all) l.last
