use Rattle.std.proofs.Common.{◌≡◌, length, map, take}
use Rattle.std.specs.Prelude.{All}
use Rattle.hd_graph.specs.Links.{HasEnds, pass_of}
use Rattle.hd_graph.proofs.links.links_of.Given as goal

abbrev pub invariant-loop-pass : goal.invariant-loop-pass
invariant-loop-pass l = record {
  passes : map (pass_of l.lows) l.links.items ≡ take l.pass-index l.passes;
  within : All (HasEnds (length l.lows)) l.links.items;
  long : length l.links.items ≡ l.pass-index;
}
