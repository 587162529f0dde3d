use Rattle.std.proofs.Common.{sym, ◌∙◌}
use Rattle.hd_engine.proofs.NamedSums.{parameter-fit}
use Rattle.hd_engine.proofs.workpiece.Workpiece.param.Goals as goal

pub report_parameter-requires-clause-sum : goal.report_parameter-requires-clause-sum
report_parameter-requires-clause-sum g c = parameter-fit c.args.name.now c.args.height c.in-Ok.parameter (sym c.named.ensures ∙ c.in-Ok.is)
