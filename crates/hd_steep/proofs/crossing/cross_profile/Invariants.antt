use Rattle.std.proofs.Common.{◌≤◌, [], take}
use Rattle.std.specs.Prelude.{All}
use Rattle.hd_steep.specs.Crossings.{HasPits}
use Rattle.hd_steep.specs.Tracing.{TracesAcross}
use Rattle.hd_steep.proofs.TracedCrossings.{untraced}
use Rattle.hd_steep.proofs.crossing.cross_profile.Given as goal

-- the descents so far are led across
abbrev pub invariant-loop-descent : goal.invariant-loop-descent
invariant-loop-descent g l = let pits = l.regions.pits in record {
  traces : TracesAcross (g.G.Heights.map l.grid) g.S.Side.NAME (take l.descent-index l.descents) (untraced pits []) (untraced pits (take l.count l.room));
  pits : All (HasPits pits) (take l.count l.room);
  few : l.count ≤ l.descent-index;
}
