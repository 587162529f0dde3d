use Rattle.std.proofs.Common.{◌++◌, List, take}
use Rattle.hd_basin.specs.declared.node.Node.{Node}
use Rattle.hd_basin.specs.Placed.{AreListed}
use Rattle.hd_basin.proofs.placed.list_tile.Given as goal

abbrev pub invariant-numbers : goal.invariant-numbers
invariant-numbers l = (nodes : List Node) → AreListed nodes l.fn.pits.items l.fn.numbers.items
    → AreListed (nodes ++ take l.number l.part.nodes) l.pits.items l.numbers.items
