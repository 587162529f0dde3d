use Rattle.hd_engine.proofs.KeepsUp.{keeps-up-first}
use Rattle.hd_engine.proofs.surveyed.Surveyed.new.Goals as goal

pub invariant_of-result : goal.invariant_of-result
invariant_of-result g c =
    let tiles = c.in_ok-work.work.board.grid in
    let m = g.G.Heights.map tiles.grid in
    keeps-up-first m tiles.tiling.side tiles.stamps.items c.new-survey.result c.new-dales.result c.new-hills.result (c.new-survey.ensures m) c.new-dales.ensures c.new-hills.ensures
