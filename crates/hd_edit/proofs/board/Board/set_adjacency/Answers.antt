use Rattle.std.proofs.Common.{◌∙◌, ap}
use Rattle.hd_edit.specs.Log.{earlier_maps}
use Rattle.hd_edit.proofs.Logs.{earlier_maps-under}
use Rattle.hd_edit.proofs.board.Board.set_adjacency.Goals as goal

pub returns-clause-earlier : goal.returns-clause-earlier
returns-clause-earlier g c =
    rw (← c.self.view_is) (ap (earlier_maps c.self.inside.log.items) c.set_adjacency.ensures.sets ∙ earlier_maps-under c.args.adjacency c.self.inside.log.items (g.G.Heights.map c.self.inside.grid))
