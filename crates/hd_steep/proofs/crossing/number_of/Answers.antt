use Rattle.std.proofs.Common.{◌∙◌, sym}
use Rattle.hd_map.proofs.Points.{point_inside}
use Rattle.hd_steep.proofs.Numbered.{numbers_whole}
use Rattle.hd_steep.proofs.NumberedCrossings.{number_at, number_some}
use Rattle.hd_steep.proofs.crossing.number_of.Goals as goal

pub number-requires : goal.number-requires
number-requires g c =
    let m = g.G.Heights.map c.args._grid.now in
    rw (numbers_whole m g.S.Side.NAME c.args.regions.now c.requires.regions, c.requires.point.index_is) (point_inside m c.requires.point.at c.requires.point.point)

pub returns : goal.returns
returns g c =
    number_at (g.G.Heights.map c.args._grid.now) g.S.Side.NAME c.args.regions.now c.requires.regions c.args.index c.requires.point c.in-Some.number (sym c.number.ensures ∙ c.in-Some.is)

pub unreachable-requires : goal.unreachable-requires
unreachable-requires g c = number_some (g.G.Heights.map c.args._grid.now) g.S.Side.NAME c.args.regions.now c.requires.regions c.args.index c.requires.point (sym c.number.ensures ∙ c.in-None.is)
