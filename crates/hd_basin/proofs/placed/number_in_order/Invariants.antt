use Rattle.std.proofs.Common.{◌≡◌, map, take}
use Rattle.hd_basin.specs.Placed.{AreNumbered, pit_of}
use Rattle.hd_basin.proofs.placed.number_in_order.Given as goal

abbrev pub invariant-numbers : goal.invariant-numbers
invariant-numbers l = (l.pits ≡ map pit_of (take l.number l.placed)) × AreNumbered (take l.number l.placed) l.fn.numbers.items l.numbers.items
