use Rattle.hd_num.proofs.Fractions.{IsReduced-zero}
use Rattle.hd_num.proofs.frac.Frac.den.Goals as goal

pub returns-clause-zero : goal.returns-clause-zero
returns-clause-zero c = IsReduced-zero c.args.self.num c.args.self.den c.args.self.reduced
