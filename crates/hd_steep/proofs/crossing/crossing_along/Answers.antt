use Rattle.hd_map.specs.Rank.{rank}
use Rattle.hd_map.proofs.Points.{point_at, Near-to}
use Rattle.hd_steep.proofs.crossing.crossing_along.Goals as goal

pub number_of-requires-clause-point : goal.number_of-requires-clause-point
number_of-requires-clause-point g c =
    let m = g.G.Heights.map c.args._grid.now in
    let d = c.requires.descent in
    record { at = rank m d.at; point = point_at m d.at d.present; index_is = d.leads.from_is }

pub number_of-requires-2-clause-point : goal.number_of-requires-2-clause-point
number_of-requires-2-clause-point g c =
    let m = g.G.Heights.map c.args._grid.now in
    let d = c.requires.descent in
    record { at = d.to; point = Near-to m (rank m d.at) d.to d.leads.lower.near; index_is = d.leads.to_is }
