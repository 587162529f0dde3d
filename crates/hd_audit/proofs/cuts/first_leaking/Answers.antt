use Rattle.std.proofs.Common.{refl}
use Rattle.hd_check.specs.Rules.{point_of}
use Rattle.hd_audit.specs.Leaks.{LeaksTo}
use Rattle.hd_audit.proofs.FailedTests.{test-fails, test-holds, below-more}
use Rattle.hd_audit.proofs.cuts.first_leaking.Goals as goal

pub loop-j-preserved : goal.loop-j-preserved
loop-j-preserved g c =
    below-more (λ i. LeaksTo (g.G.Heights.map c.args.surface.now) c.args.limit.now.side c.args.limit.now.percent.thousandths c.args.limit.now.sz c.args.lines.now c.args.cut
    (point_of c.args.round.now i) → ⊥)
    c.loop-j.j c.loop-j.invariant (test-fails c.leaks_to.result c.if-leaks_to.false c.leaks_to.ensures)

pub returns-then-leaks_to : goal.returns-then-leaks_to
returns-then-leaks_to g c = (c.loop-j.j, c.loop-j-test.true, c.loop-j.invariant, test-holds c.leaks_to.result c.if-leaks_to.true c.leaks_to.ensures, refl)
