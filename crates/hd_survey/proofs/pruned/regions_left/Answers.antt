use Rattle.std.proofs.Common.{map}
use Rattle.hd_prune.specs.Pruned.{leavings_of}
use Rattle.hd_survey.specs.Owned.{plain_tally}
use Rattle.hd_survey.proofs.ByRoots.{left_by_roots}
use Rattle.hd_survey.proofs.Owning.{left_are, left_inside, plain_have, sizes_have}
use Rattle.hd_survey.proofs.PrunedPits.{pruning_pits, steps_inside}
use Rattle.hd_survey.proofs.pruned.regions_left.Goals as goal

pub owned_sizes-requires : goal.owned_sizes-requires
owned_sizes-requires g c =
    let m = g.G.Heights.map c.args.grid.now in
    let side = g.S.Side.NAME in
    (m, side, c.args.percent.thousandths, g.met.G.Heights.whole c.args.grid.now, c.requires.pruned, sizes_have m side c.args.sizes.now c.requires.sizes, c.cells_of.ensures)

pub returns-clause-left : goal.returns-clause-left
returns-clause-left g c =
    let m = g.G.Heights.map c.args.grid.now in
    let side = g.S.Side.NAME in
    let thousandths = c.args.percent.thousandths in
    let whole = g.met.G.Heights.whole c.args.grid.now in
    let all = c.args.pruned in
    let pruned = c.requires.pruned in
    let tallies = map plain_tally c.args.sizes.now in
    let have = plain_have m side c.args.sizes.now c.requires.sizes in
    let made = c.in_ok-kept.ensures in
    record {
      are = left_by_roots m side thousandths whole (leavings_of all.steps) pruned.last pruned.owner pruned.pruning have.roots have.regions c.in_ok-kept.kept
          (left_are m side thousandths whole all.steps all.kept all.owners pruned tallies have made.0 made.1 c.in_ok-kept.kept made.2);
      steps = steps_inside m side all.steps (pruning_pits m side thousandths (leavings_of all.steps) pruned.last pruned.owner pruned.pruning).0;
      kept = left_inside m side thousandths whole all.steps all.kept all.owners pruned tallies have made.0 made.1 c.in_ok-kept.kept made.2;
    }
