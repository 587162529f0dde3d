use Rattle.hd_reach.specs.Flood.{IsFloodingOn}
use Rattle.hd_reach.specs.Marks.{marking}
use Rattle.hd_reach.specs.Within.{LiesWithin}
use Rattle.hd_reach.proofs.breadth.flood.Given as goal

abbrev pub invariant-loop-passed : goal.invariant-loop-passed
invariant-loop-passed g l =
    let m = g.G.Heights.map l.grid in
    IsFloodingOn m (LiesWithin m g.S.Side.NAME l.bound.level l.bound.strict) l.fn.start
    (marking g.M.FloodMark.blank g.M.FloodMark.after l.fn.first l.fn.marks.items) l.marks.items l.queue.items l._passed
