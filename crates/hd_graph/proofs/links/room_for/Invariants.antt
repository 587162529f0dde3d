use Rattle.hd_graph.proofs.NumberedLinks.{AreWithin}
use Rattle.hd_graph.proofs.links.room_for.Given as goal

abbrev pub invariant-loop-low : goal.invariant-loop-low
invariant-loop-low l = AreWithin l.lows l.low-index l.room
