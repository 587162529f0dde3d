use Rattle.std.proofs.Common.{length}
use Rattle.hd_basin.specs.Inside.{AreMet, place_of_frame}
use Rattle.hd_basin.proofs.inside.meet_point.Given as goal

abbrev pub invariant-loop-step : goal.invariant-loop-step
invariant-loop-step g l = AreMet (g.G.Heights.map l.grid) g.S.Side.NAME l.plot.area l.labels (length l._nodes) (place_of_frame l.plot.area l.at) l.step l.meetings.lasts.items l.meetings.list.items
