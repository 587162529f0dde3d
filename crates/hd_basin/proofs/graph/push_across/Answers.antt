use Rattle.std.proofs.Common.{◌∙◌, refl}
use Rattle.hd_basin.specs.Graph.{pass_of}
use Rattle.hd_basin.proofs.FlatLists.{flat-more, flat-whole}
use Rattle.hd_basin.proofs.graph.push_across.Goals as goal

pub seams-preserved : goal.seams-preserved
seams-preserved g c = flat-more (pass_of g.S.Side.NAME c.args.stock.now) c.args.passes.now c.seams.passes c.push_seam.new.passes c.args.seams.now c.seams.seam-index _ _
    c.seams-test.true refl c.seams.invariant c.in_ok-push_seam.ensures

pub returns : goal.returns
returns g c = c.seams.invariant ∙ flat-whole (pass_of g.S.Side.NAME c.args.stock.now) c.args.passes.now c.args.seams.now c.seams.seam-index c.seams-test.false
