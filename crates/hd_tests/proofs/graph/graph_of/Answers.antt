use Rattle.hd_map.specs.Rank.{below_by}
use Rattle.hd_tests.proofs.WrittenGraphs.{graph-from}
use Rattle.hd_tests.proofs.graph.graph_of.Goals as goal

pub new-requires : goal.new-requires
new-requires g c = rw (c.list.ensures, c.list-2.ensures)
    (graph-from (below_by g.S.Side.NAME) c.args.lows.now c.args.passes.now c.requires)
