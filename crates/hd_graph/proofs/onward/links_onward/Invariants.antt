use Rattle.std.proofs.Common.{◌≡◌, ◌+◌, length}
use Rattle.hd_graph.specs.Classes.{AreFalling}
use Rattle.hd_graph.proofs.LeadsOn.{LeadsSoFar}
use Rattle.hd_graph.proofs.onward.links_onward.Given as goal

abbrev pub invariant-loop-place : goal.invariant-loop-place
invariant-loop-place l = record {
  falling : AreFalling l.classes.parents.items;
  high : length l.classes.parents.items ≡ l.count;
  wide : length l.parts.items ≡ l.count;
  long : length l.onward.items ≡ l.count + l.place;
  so : LeadsSoFar l.links l.count l.place l.classes.parents.items l.parts.items l.onward.items;
}
