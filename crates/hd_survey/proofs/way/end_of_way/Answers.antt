use Rattle.hd_map.specs.Rank.{rank}
use Rattle.hd_map.proofs.Nexts.{next-falls}
use Rattle.hd_steep.proofs.Ways.{walk_step}
use Rattle.hd_survey.proofs.way.end_of_way.Goals as goal

pub walk-smaller : goal.walk-smaller
walk-smaller g c =
    let m = g.G.Heights.map c.args.grid.now in
    next-falls m g.S.Side.NAME (rank m c.walk.here) (rank m c.in-Some.lower) (g.met.G.Heights.whole c.args.grid.now) c.in-Some.ensures.1

pub walk-preserved : goal.walk-preserved
walk-preserved g c =
    walk_step (g.G.Heights.map c.args.grid.now) g.S.Side.NAME c.args.at c.walk.here c.in-Some.lower c.walk.invariant c.in-Some.ensures.0 c.in-Some.ensures.1
