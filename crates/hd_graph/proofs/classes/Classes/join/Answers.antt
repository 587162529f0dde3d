use Rattle.hd_graph.proofs.AreOneClass.{joins-as, one-class, two-classes}
use Rattle.hd_graph.proofs.classes.Classes.join.Goals as goal

pub returns-then-first-second-clause-one : goal.returns-then-first-second-clause-one
returns-then-first-second-clause-one c = λ e.
    let found = c.leasts_of-first.ensures.found in
    (found.same c.args.a c.args.b).0 (one-class c.args.self.now.parents.items c.leasts_of-first.new.self.parents.items c.args.a c.args.b c.leasts_of-first.result.0
    c.leasts_of-first.result.1 found c.if-first-second.true)

pub returns-clause-joins : goal.returns-clause-joins
returns-clause-joins c = λ e.
    let found = c.leasts_of-first.ensures.found in
    joins-as c.args.self.now.parents.items c.leasts_of-first.new.self.parents.items c.unite.new.self.parents.items c.args.a c.args.b c.leasts_of-first.result.0 c.leasts_of-first.result.1 found.same
    ((found.same c.args.a c.leasts_of-first.result.0).0 found.one) ((found.same c.args.b c.leasts_of-first.result.1).0 found.other) c.unite.ensures.joins

pub returns-clause-apart : goal.returns-clause-apart
returns-clause-apart c = λ e h.
    let found = c.leasts_of-first.ensures.found in
    two-classes c.args.self.now.parents.items c.leasts_of-first.new.self.parents.items c.args.a c.args.b c.leasts_of-first.result.0 c.leasts_of-first.result.1 found
    c.if-first-second.false ((found.same c.args.a c.args.b).1 h)

pub returns-then-first-second-clause-same : goal.returns-then-first-second-clause-same
returns-then-first-second-clause-same c = λ e. c.leasts_of-first.ensures.found.same
