use Rattle.std.proofs.Common.{◌≡◌, ◌+◌, ◌∙◌, List, Bool, take, ap, sym, subst}
use Rattle.hd_map.specs.declared.types.Adjacency.{Adjacency}
use Rattle.hd_steep.specs.declared.descent.Descent.{Descent}
use Rattle.hd_steep.specs.Descended.{Descends, indexes_round, with_descents}
use Rattle.hd_steep.specs.LowerPlaces.{lower_round}
use Rattle.hd_steep.specs.Ring.{marks_of}
use Rattle.hd_steep.proofs.Descended.{descends_at}
use Rattle.hd_steep.proofs.descending.descend_point.Goals as goal

pub returns-clause-descends : goal.returns-clause-descends
returns-clause-descends g c =
    let m = g.G.Heights.map c.args.grid.now in
    let side = g.S.Side.NAME in
    let at = c.args.at in
    let rows = c.args.rows.now in
    let places = c.args.lower.now in
    let old = take c.args.count c.args.room.now in
    let here = c.requires.point in
    let marks : c.marked-marks.result ≡ marks_of m.adjacency (lower_round places at.x) =
    c.marked-marks.ensures ∙ ap (λ (a : Adjacency). marks_of a c.round.result) c.adjacency.ensures ∙ ap (marks_of m.adjacency) c.round.ensures in
    subst (λ (ds : List Descent). Descends m side (λ u. u ≡ at) old ds) (sym c.descend.ensures.descents)
    (subst (λ (first : List Bool). Descends m side (λ u. u ≡ at) old (with_descents (rows.level.first + at.x) (indexes_round rows at.x) first old 8)) (sym marks)
    (descends_at m side (g.met.G.Heights.whole c.args.grid.now) g.L.Lane.code rows at here c.requires.rows (lower_round places at.x) (c.requires.lower.each at.x here.in_grid.column) old))
