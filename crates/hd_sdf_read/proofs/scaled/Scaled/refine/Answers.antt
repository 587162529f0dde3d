use Rattle.hd_sdf_read.proofs.Scaling.{Refines-from_grows, IsRefined-same}
use Rattle.hd_sdf_read.proofs.scaled.Scaled.refine.Goals as goal

pub returns-clause-heights : goal.returns-clause-heights
returns-clause-heights c = Refines-from_grows c.args.self.now c.grow.new.self c.args.places c.grow.result c.if-places-self.false c.grow.ensures

pub returns-then-places-self-clause-heights : goal.returns-then-places-self-clause-heights
returns-then-places-self-clause-heights c = λ t before kept. IsRefined-same c.args.self.now t before c.args.places kept c.if-places-self.true
