use Rattle.std.proofs.Common.{◌+◌, cond, ne_eqb, sym, ap, ◌∙◌}
use Rattle.hd_sdf_write.proofs.Data.{gap_after-at}
use Rattle.hd_sdf_write.proofs.cells.gap_after.Goals as goal

pub returns-else-at-size : goal.returns-else-at-size
returns-else-at-size c = sym (gap_after-at c.args.size c.args.at.x c.args.at.y c.requires ∙ ap (λ b. cond b 10 32) (ne_eqb (c.args.at.x + 1) c.args.size.points c.if-at-size.false))
