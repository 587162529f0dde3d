use Rattle.hd_map.specs.Rank.{below_by}
use Rattle.hd_map.specs.Saddle.{SaddleIs}
use Rattle.hd_graph.specs.Tells.{joins_of}
use Rattle.hd_graph.proofs.MapTrees.{tree-of_pits}
use Rattle.hd_graph.proofs.MergedTrees.{two-lows}
use Rattle.hd_graph.proofs.trees.tree_of_merges.Goals as goal

pub group-requires : goal.group-requires
group-requires g c = record {
  each = two-lows (below_by g.S.Side.NAME) (SaddleIs c.requires.0 g.S.Side.NAME) c.args.lows.now c.args.merges.now c.requires.1.at_saddles;
  rising = c.requires.1.at_saddles.rising;
}

pub returns : goal.returns
returns g c = λ m whole is. rw c.from_vec-joins.ensures (tree-of_pits m g.S.Side.NAME c.args.lows.now c.args.merges.now is (joins_of c.in_ok-group.field-0.items) c.in_ok-group.ensures)
