use Rattle.std.proofs.Common.{sym, ◌∙◌}
use Rattle.hd_map.proofs.Points.{same_point}
use Rattle.hd_engine.proofs.saddles.tell_saddle.Goals as goal

pub saddle_between-requires-clause-apart : goal.saddle_between-requires-clause-apart
saddle_between-requires-clause-apart g c = λ same.
    c.requires.pits.apart (same_point (g.G.Heights.map c.args.grid.now) c.args.from c.args.to c.requires.pits.here c.requires.pits.there (sym c.rank_of.ensures ∙ same ∙ c.rank_of-2.ensures))
