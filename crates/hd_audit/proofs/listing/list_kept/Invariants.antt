use Rattle.std.proofs.Common.{None}
use Rattle.hd_audit.specs.Flooding.{AreBegun}
use Rattle.hd_audit.specs.Standings.{AreStanding, seen_of}
use Rattle.hd_audit.proofs.listing.list_kept.Given as goal

abbrev pub invariant-loop-k : goal.invariant-loop-k
invariant-loop-k g l = record {
  begun : AreBegun (g.G.Heights.map l.grid) l.kept l.k-index (seen_of l.standing.items) l.lines;
  standing : AreStanding (g.G.Heights.map l.grid) g.S.Side.NAME None l.standing.items;
}
