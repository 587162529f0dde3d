use Rattle.hd_map.proofs.PositionOrder.{IsAt}
use Rattle.hd_cert.specs.Listed.{AreListed}
use Rattle.hd_reach.specs.Reached.{IsReachedLow}
use Rattle.hd_cert.proofs.region_cut.region_cut.Given as goal

abbrev pub invariant-loop-index : goal.invariant-loop-index
invariant-loop-index g l =
    let m = g.G.Heights.map l.grid in
    IsAt m.size l.index l.at × AreListed m.size (IsReachedLow m g.S.Side.NAME l.saddle l.from) l.index l.cut.items
