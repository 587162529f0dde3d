use Rattle.hd_basin.proofs.Frames.{part-shows, part-window}
use Rattle.hd_basin.proofs.window.Window.inset.Goals as goal

pub invariant_of-result : goal.invariant_of-result
invariant_of-result c =
    let w = c.args.self.now in
    record { whole = rw c.as_slice.ensures.value (part-window w.size w.frame w.heights.items w.whole c.requires.columns c.requires.rows) }

pub returns : goal.returns
returns c =
    let w = c.args.self.now in
    rw c.as_slice.ensures.value (part-shows w.size w.adjacency w.frame w.heights.items w.whole.fits)
