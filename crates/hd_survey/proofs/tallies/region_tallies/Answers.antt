use Rattle.std.proofs.Common.{◌∙◌}
use Rattle.hd_steep.specs.Numbering.{roots_of}
use Rattle.hd_steep.proofs.Numbered.{numbers_whole}
use Rattle.hd_survey.proofs.RegionTallies.{tallies_are}
use Rattle.hd_survey.proofs.RootedPoints.{regions_have_roots}
use Rattle.hd_survey.proofs.tallies.region_tallies.Goals as goal

pub tally_points-requires-clause-whole : goal.tally_points-requires-clause-whole
tally_points-requires-clause-whole g c = numbers_whole (g.G.Heights.map c.args.grid.now) g.S.Side.NAME c.args.regions.now c.requires

pub tally_points-requires-clause-present : goal.tally_points-requires-clause-present
tally_points-requires-clause-present g c = regions_have_roots (g.G.Heights.map c.args.grid.now) g.S.Side.NAME (roots_of c.args.regions.now) c.requires.roots

pub returns : goal.returns
returns g c =
    let m = g.G.Heights.map c.args.grid.now in
    let regions = c.args.regions.now in
    c.from_vec.ensures ∙ tallies_are m regions c.requires.pits.in_order (numbers_whole m g.S.Side.NAME regions c.requires) c.in_ok-tallies.tallies.items c.in_ok-tallies.ensures
