use Rattle.std.proofs.Common.{None, arith}
use Rattle.hd_audit.specs.Rules.{FirstLeak}
use Rattle.hd_audit.proofs.FailedTests.{below-more}
use Rattle.hd_audit.proofs.cuts.first_leak.Goals as goal

pub loop-k-preserved : goal.loop-k-preserved
loop-k-preserved g c =
    below-more (λ i. FirstLeak (g.G.Heights.map c.args.surface.now) c.args.limit.now.side c.args.limit.now.percent.thousandths c.args.limit.now.sz c.args.lines.now i None)
    c.loop-k.k c.loop-k.invariant c.in_default.ensures

pub returns : goal.returns
returns g c = λ k inside. c.loop-k.invariant k (omega (arith, inside, c.loop-k-test.false))
