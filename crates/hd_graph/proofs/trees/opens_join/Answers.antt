use Rattle.std.proofs.Common.{◌∙◌, sym, ap}
use Rattle.std.specs.Option.{option_copied}
use Rattle.hd_map.specs.Rank.{below_by}
use Rattle.hd_graph.proofs.WithPart.{opens_join-read}
use Rattle.hd_graph.proofs.trees.opens_join.Goals as goal

pub returns-in-Some : goal.returns-in-Some
returns-in-Some g c =
    c.below.ensures ∙ sym (opens_join-read (below_by g.S.Side.NAME) c.args.saddle c.args.joins.now c.in-Some.last.now (sym c.last.ensures.value ∙ ap option_copied c.in-Some.is))
