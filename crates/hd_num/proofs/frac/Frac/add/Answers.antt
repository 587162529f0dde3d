use Rattle.std.proofs.Common.{subst, ◌*◌}
use Rattle.hd_num.specs.Frac.{IsFraction}
use Rattle.hd_num.proofs.Fractions.{sum_over_product-fits, sum_over_product-kept}
use Rattle.hd_num.proofs.frac.Frac.add.Goals as goal

pub overflow_add-first : goal.overflow_add-first
overflow_add-first c = sum_over_product-fits c.args.self.num c.args.self.den c.args.other.num c.args.other.den c.args.self.reduced.positive c.args.other.reduced.positive
    c.requires.own c.requires.other c.requires.dens

pub returns : goal.returns
returns c = subst (λ z. IsFraction z (c.args.self.den * c.args.other.den) c.new.result.num c.new.result.den)
    (sum_over_product-kept c.args.self.num c.args.self.den c.args.other.num c.args.other.den c.args.self.reduced.positive c.args.other.reduced.positive c.requires.own c.requires.other c.requires.dens)
    c.new.ensures
