use Rattle.std.proofs.Common.{◌+◌, sym, subst}
use Rattle.hd_map.specs.declared.types.Rank.{Rank}
use Rattle.hd_steep.specs.Lowest.{IsLow}
use Rattle.hd_steep.proofs.Looking.{IsRoundTo, round_more}
use Rattle.hd_steep.proofs.lowest.lowest_round.Goals as goal

pub loop-y-preserved : goal.loop-y-preserved
loop-y-preserved g c =
    let m = g.G.Heights.map c.args.grid.now in
    let side = g.S.Side.NAME in
    let y = c.loop-y.y in
    subst (λ (r : Rank). IsLow m side (IsRoundTo m.adjacency c.args.at (y + 1)) r) (sym c.lower-lowest.ensures)
    (round_more m side (g.met.G.Heights.whole c.args.grid.now) m.adjacency c.args.at y c.loop-y.lowest c.lowest_beside.result c.loop-y.invariant c.lowest_beside.ensures)
