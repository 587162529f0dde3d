use Rattle.hd_steep.specs.LowerPlaces.{AreTested}
use Rattle.hd_steep.specs.Lowest.{later_below}
use Rattle.hd_steep.proofs.lower_places.tell_later.Given as goal

-- the columns so far
abbrev pub invariant-loop-x : goal.invariant-loop-x
invariant-loop-x g l = AreTested g.L.Lane.code g.S.Side.NAME (later_below g.S.Side.NAME) l.keys l.shift l.level l.x l.lower
