use Rattle.hd_basin.proofs.LowRound.{entry-at}
use Rattle.hd_basin.proofs.round.rank_beside.Goals as goal

pub returns : goal.returns
returns g c = entry-at (g.G.Heights.map c.args._grid.now) g.S.Side.NAME (g.met.G.Heights.whole c.args._grid.now) c.args.area c.args.ranks.now c.requires.ranks c.args.at
    c.requires.at c.args.right c.args.down c.requires.right c.requires.down
