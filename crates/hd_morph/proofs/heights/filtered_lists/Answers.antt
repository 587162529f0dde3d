use Rattle.hd_morph.proofs.Listed.{IsBeyond-never_wide}
use Rattle.hd_morph.proofs.heights.filtered_lists.Goals as goal

pub unreachable-requires : goal.unreachable-requires
unreachable-requires g c = IsBeyond-never_wide (g.G.Heights.map c.args.grid.now) (g.met.G.Heights.whole c.args.grid.now) (rw c.in-None.is at c.in_ok-lists-2.ensures)
