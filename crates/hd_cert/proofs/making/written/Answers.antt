use Rattle.std.proofs.Common.{rules, ap, sym, ◌∙◌, subst}
use Rattle.hd_map.specs.declared.types.Size.{Size}
use Rattle.hd_map.specs.Map.{InGrid, place_of}
use Rattle.hd_cert.proofs.Shown.{rank-written}
use Rattle.hd_cert.proofs.making.written.Goals as goal

pub returns : goal.returns
returns g c =
    let m = g.G.Heights.map c.args.grid.now in
    let w = rank-written m c.args.saddle c.position_of.result c.requires (subst (λ (s : Size). InGrid s c.position_of.result) c.size.ensures c.position_of.ensures.in_grid)
    (sym (ap (λ (s : Size). place_of s c.position_of.result) c.size.ensures) ∙ c.position_of.ensures.place) in
    (w.0, w.1, search rules)
