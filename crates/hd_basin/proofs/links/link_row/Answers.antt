use Rattle.std.proofs.Common.{◌≡◌, ◌+◌, ◌*◌, ℕ, sym, subst, arith}
use Rattle.hd_basin.specs.Links.{AreLinksTo}
use Rattle.hd_basin.proofs.AreLinks.{links-more}
use Rattle.hd_basin.proofs.links.link_row.Goals as goal

pub loop-column-preserved : goal.loop-column-preserved
loop-column-preserved g c =
    let m = g.G.Heights.map c.args.grid.now in
    let side = g.S.Side.NAME in
    let t : ℕ = c.args.plot.tiling.side in
    let n : ℕ = c.args.row * c.args.plot.area.columns + c.loop-column.column in
    let next : n + 1 ≡ c.args.row * c.args.plot.area.columns + (c.loop-column.column + 1) = omega arith in
    subst (λ (k : ℕ). AreLinksTo m side t c.args.plot.area k c.push.new.self.items) next (subst (AreLinksTo m side t c.args.plot.area (n + 1)) (sym c.in_ok-push.ensures.items)
    (links-more m side t c.args.plot.area n c.loop-column.links.items c.link_at-link.result c.loop-column.invariant c.link_at-link.ensures))
