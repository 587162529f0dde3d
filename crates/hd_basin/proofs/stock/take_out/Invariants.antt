use Rattle.std.proofs.Common.{take}
use Rattle.hd_basin.specs.Stock.{AreTakenOut}
use Rattle.hd_basin.proofs.stock.take_out.Given as goal

abbrev pub invariant-keys : goal.invariant-keys
invariant-keys l = AreTakenOut l.fn.slab l.slab (take l.key-index l.keys)
