use Rattle.std.proofs.Common.{arith}
use Rattle.hd_map.specs.Map.{cell_count}
use Rattle.hd_map.proofs.Presences.{heights_below-few}
use Rattle.hd_stats.proofs.sums.sums_of.Goals as goal

pub returns-clause-small : goal.returns-clause-small
returns-clause-small g c =
    let m = g.G.Heights.map c.args.grid.now in
    let few = heights_below-few m (cell_count m.size) in
    let whole = (g.met.G.Heights.whole c.args.grid.now).size.cells in
    let count = c.gathered.ensures.1.count in
    let total = c.gathered.ensures.1.total in
    record { count = omega (arith, few, whole, count); total = omega (arith, few, whole, total) }
