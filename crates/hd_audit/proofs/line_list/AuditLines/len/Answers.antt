use Rattle.hd_audit.proofs.LineList.{lines_kept-length}
use Rattle.std.proofs.Common.{◌∙◌}
use Rattle.hd_audit.proofs.line_list.AuditLines.len.Goals as goal

pub returns : goal.returns
returns c = let s = c.self.inside in c.len.ensures ∙ s.numbers.ok.0 ∙ lines_kept-length s.numbers.items s.named.items c.self.invariant c.args.self.now c.self.view_is
