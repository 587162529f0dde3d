use Rattle.std.proofs.Common.{◌≡◌, ◌*◌, ℕ, sym, subst, arith}
use Rattle.hd_basin.specs.Links.{AreLinks, AreLinksTo}
use Rattle.hd_basin.proofs.Areas.{area-small, area-fits}
use Rattle.hd_basin.proofs.sinks.sinks_in.Goals as goal

pub sweep-requires : goal.sweep-requires
sweep-requires g c =
    let m = g.G.Heights.map c.args.grid.now in
    let side = g.S.Side.NAME in
    let t : ℕ = c.args.plot.tiling.side in
    let f = c.args.plot.area in
    let least = c.args.plot.tiling.tile_side.least in
    let count : f.rows * f.columns ≡ f.columns * f.rows = omega arith in
    let are : AreLinks m side t f c.in_ok-links.links.items = record {
      few = area-small m.size t c.args.plot.tile f c.args.plot.tiling.tile_side.greatest c.requires.area;
      fits = area-fits m.size t c.args.plot.tile f (omega (arith, least)) c.requires.area;
      all = subst (λ (n : ℕ). AreLinksTo m side t f n c.in_ok-links.links.items) count c.in_ok-links.ensures;
    } in
    subst (AreLinks m side t f) (sym c.deref_mut.ensures.value) are
