use Rattle.hd_steep.proofs.PitNumbers.{AreNumbersTo}
use Rattle.hd_steep.proofs.pit_list.write_at_pits.Given as goal

abbrev pub invariant-loop-number : goal.invariant-loop-number
invariant-loop-number g l = AreNumbersTo (g.G.Heights.map l._grid) g.S.Side.NAME l.number l.pits l.first l.fn.numbers l.numbers
