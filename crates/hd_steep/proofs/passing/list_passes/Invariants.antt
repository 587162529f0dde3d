use Rattle.std.proofs.Common.{◌≡◌, map, take}
use Rattle.hd_steep.specs.Passes.{pass_of_border}
use Rattle.hd_steep.proofs.passing.list_passes.Given as goal

abbrev pub invariant-loop-border : goal.invariant-loop-border
invariant-loop-border g l = l.passes ≡ map (pass_of_border (g.G.Heights.map l.grid) g.S.Side.NAME) (take l.border-index l.borders)
