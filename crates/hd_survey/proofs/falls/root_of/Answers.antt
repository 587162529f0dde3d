use Rattle.std.proofs.Common.{◌≡◌, sym, ap, ◌∙◌, subst}
use Rattle.hd_map.specs.declared.types.Rank.{Rank}
use Rattle.hd_map.specs.declared.types.Size.{Size}
use Rattle.hd_map.specs.Map.{Map, place_of, position_at}
use Rattle.hd_map.specs.Rank.{rank}
use Rattle.hd_map.specs.Region.{IsRoot}
use Rattle.hd_map.proofs.Points.{position_at-of}
use Rattle.hd_survey.proofs.falls.root_of.Goals as goal

pub returns : goal.returns
returns g c =
    let m = g.G.Heights.map c.args.grid.now in
    let side = g.S.Side.NAME in
    let point = c.requires.point in
    let at = c.position_of.result in
    let index : c.args.point.index ≡ place_of m.size point.at = ap (λ (r : Rank). r.index) point.rank_is in
    let here : at ≡ point.at = c.position_of.ensures.value ∙ ap (λ (s : Size). position_at s c.args.point.index) c.size.ensures
    ∙ ap (position_at m.size) index ∙ position_at-of m.size point.at point.present.in_grid in
    let same : rank m at ≡ c.args.point = ap (rank m) here ∙ sym point.rank_is in
    let root : IsRoot m side (rank m at) (rank m c.root-root.result) =
    subst (λ (n : Map). IsRoot n side (rank n at) (rank n c.root-root.result)) c.requires.view c.root-root.ensures.root in
    subst (λ (r : Rank). IsRoot m side r c.rank_of.result) same (subst (λ (r : Rank). IsRoot m side (rank m at) r) (sym c.rank_of.ensures) root)
