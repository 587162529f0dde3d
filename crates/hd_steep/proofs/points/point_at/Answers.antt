use Rattle.std.proofs.Common.{◌<◌, ◌∙◌, ap, sym, subst}
use Rattle.hd_map.specs.declared.types.Pos.{Pos}
use Rattle.hd_map.specs.declared.types.Size.{Size}
use Rattle.hd_map.specs.Map.{Present, cell_count, position_at}
use Rattle.hd_map.specs.Rank.{rank}
use Rattle.hd_steep.proofs.PointAt.{has-below, has-present}
use Rattle.hd_steep.proofs.points.point_at.Goals as goal

pub position_of-requires : goal.position_of-requires
position_of-requires g c = subst (λ (s : Size). c.args.index < cell_count s) (sym c.size.ensures) (has-below (g.G.Heights.map c.args.grid.now) c.args.index c.requires)

pub rank_of-requires : goal.rank_of-requires
rank_of-requires g c =
    let m = g.G.Heights.map c.args.grid.now in
    subst (λ (p : Pos). Present m p) (sym (c.position_of.ensures.value ∙ ap (λ (s : Size). position_at s c.args.index) c.size.ensures)) (has-present m c.args.index c.requires)

pub returns : goal.returns
returns g c =
    let m = g.G.Heights.map c.args.grid.now in
    c.rank_of.ensures ∙ ap (rank m) (c.position_of.ensures.value ∙ ap (λ (s : Size). position_at s c.args.index) c.size.ensures)
