use Rattle.hd_basin.proofs.Frames.{inset-height}
use Rattle.hd_basin.proofs.inset.InsetHeights.height.Goals as goal

pub returns : goal.returns
returns c =
    let i = c.args.self.now in
    inset-height i.size i.adjacency i.heights.now c.index_of.result c.args.at c.requires c.index_of.ensures.value
