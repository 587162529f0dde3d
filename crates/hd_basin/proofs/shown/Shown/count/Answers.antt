use Rattle.std.proofs.Common.{sym, ◌∙◌}
use Rattle.hd_basin.proofs.Stocked.{shown-length}
use Rattle.hd_basin.proofs.shown.Shown.count.Goals as goal

pub returns : goal.returns
returns c = (let s = c.self.inside in c.len.ensures ∙ s.kept.now.keys.ok.0 ∙ sym (shown-length s.nodes.now s.kept.now c.self.invariant c.args.self.now c.self.view_is))
