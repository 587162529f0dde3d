use Rattle.std.proofs.Common.{◌+◌, sym, subst, arith}
use Rattle.hd_map.specs.declared.types.Rank.{Rank}
use Rattle.hd_steep.specs.Lowest.{IsLow}
use Rattle.hd_steep.proofs.Looking.{IsRoundBefore, span_more}
use Rattle.hd_steep.proofs.lowest.lowest_beside.Goals as goal

pub loop-x-preserved : goal.loop-x-preserved
loop-x-preserved g c =
    let m = g.G.Heights.map c.args.grid.now in
    let side = g.S.Side.NAME in
    let x = c.loop-x.x in
    subst (λ (r : Rank). IsLow m side (IsRoundBefore m.adjacency c.args.at (c.args.y + 1) (x + 1)) r) (sym c.lower-lowest.ensures)
    (span_more m side (g.met.G.Heights.whole c.args.grid.now) m.adjacency c.args.at c.args.y x c.loop-x.lowest c.rank_beside.result c.requires.near
    (omega arith, omega arith) c.loop-x.invariant c.rank_beside.ensures)
