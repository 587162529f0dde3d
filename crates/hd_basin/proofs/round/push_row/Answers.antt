use Rattle.std.proofs.Common.{◌≡◌, ◌+◌, ◌*◌, ℕ, List, refl, sym, subst, arith}
use Rattle.hd_map.specs.declared.types.Rank.{Rank}
use Rattle.hd_basin.specs.Round.{AreRanks}
use Rattle.hd_basin.proofs.LowRound.{ranks-more}
use Rattle.hd_basin.proofs.round.push_row.Goals as goal

pub loop-column-preserved : goal.loop-column-preserved
loop-column-preserved g c =
    let m = g.G.Heights.map c.args.grid.now in
    let side = g.S.Side.NAME in
    let n : ℕ = c.args.row * (c.args.area.columns + 2) + c.loop-column.column in
    let next : n + 1 ≡ c.args.row * (c.args.area.columns + 2) + (c.loop-column.column + 1) = omega arith in
    subst (λ (k : ℕ). AreRanks m side c.args.area k c.push.new.self.items) next (subst (λ (xs : List Rank). AreRanks m side c.args.area (n + 1) xs) (sym c.in_ok-push.ensures.items)
    (ranks-more m side c.args.area c.args.row c.loop-column.column n c.loop-column.ranks.items c.rank_at-rank.result c.loop-column-test.true refl c.loop-column.invariant c.rank_at-rank.ensures))
