use Rattle.std.proofs.Common.{subst, sym}
use Rattle.hd_survey.specs.Survey.{IsSurvey}
use Rattle.hd_tiles.specs.Origin.{count-stays}
use Rattle.hd_engine.proofs.KeepsUp.{keeps-up-onward}
use Rattle.hd_engine.proofs.surveyed.Surveyed.set_adjacency.Goals as goal

pub invariant_of-self : goal.invariant_of-self
invariant_of-self g c =
    let old = c.self.inside.work.board.grid in
    let new = c.set_adjacency.new.self.board.grid in
    let m = g.G.Heights.map old.grid in
    let n = g.G.Heights.map new.grid in
    let comes = c.set_adjacency.ensures.origin in
    let same = count-stays old.stamps.items new.stamps.items old.tiling.size new.tiling.size m.size n.size old.tiling.side new.tiling.side old.same_size new.same_size comes.size
    comes.same_side old.stamped new.stamped in
    keeps-up-onward m n old.tiling.side new.tiling.side old.stamps.items new.stamps.items c.self.inside.survey c.replace.new.dest c.self.inside.dales c.self.inside.hills
    (λ side pool. c.pool_stays_in_step.ensures pool side m n old.stamps.items new.stamps.items) (subst (IsSurvey n) (sym c.replace.ensures.after) (c.new.ensures n)) (sym same) comes c.self.invariant
