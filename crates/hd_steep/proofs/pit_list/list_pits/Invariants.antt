use Rattle.hd_steep.proofs.Pits.{ArePitsBefore}
use Rattle.hd_steep.proofs.pit_list.list_pits.Given as goal

-- the pits so far
abbrev pub invariant-loop-index : goal.invariant-loop-index
invariant-loop-index g l = ArePitsBefore (g.G.Heights.map l.grid) g.S.Side.NAME l.index l.pits.items
