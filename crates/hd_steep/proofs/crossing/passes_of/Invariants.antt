use Rattle.std.proofs.Common.{◌≡◌, map, take}
use Rattle.hd_steep.specs.Crossings.{pass_of}
use Rattle.hd_steep.proofs.crossing.passes_of.Given as goal

abbrev pub invariant-loop-crossing : goal.invariant-loop-crossing
invariant-loop-crossing g l = l.passes ≡ map (pass_of g.S.Side.NAME l.regions.pits) (take l.crossing-index l.crossings)
