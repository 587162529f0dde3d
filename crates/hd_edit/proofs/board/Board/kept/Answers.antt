use Rattle.std.proofs.Common.{◌∙◌, sym}
use Rattle.hd_edit.proofs.Logs.{earlier_maps-length}
use Rattle.hd_edit.proofs.board.Board.kept.Goals as goal

pub returns-clause-kept : goal.returns-clause-kept
returns-clause-kept g c = rw (← c.self.view_is) (c.len.ensures.len ∙ sym (earlier_maps-length c.self.inside.log.items (g.G.Heights.map c.self.inside.grid)))
