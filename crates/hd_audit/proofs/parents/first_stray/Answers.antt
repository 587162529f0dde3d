use Rattle.std.proofs.Common.{◌∙◌, ap}
use Rattle.hd_map.specs.Map.{position_at}
use Rattle.std.specs.Prelude.{MatchOption}
use Rattle.hd_audit.specs.declared.types.AuditLine.{AuditLine}
use Rattle.hd_audit.specs.Lines.{line_at}
use Rattle.hd_audit.specs.Rules.{IsEarlierNeighbour}
use Rattle.hd_audit.proofs.FailedTests.{test-fails, test-holds, below-more}
use Rattle.hd_audit.proofs.parents.first_stray.Goals as goal

pub loop-k-preserved : goal.loop-k-preserved
loop-k-preserved g c =
    let m = g.G.Heights.map c.args.surface.now in
    below-more (λ i. MatchOption (line_at c.args.lines.now i).parent (Unit {0}) (IsEarlierNeighbour m c.args.lines.now i)) c.loop-k.k c.loop-k.invariant
    (test-holds c.has_earlier_parent.result c.if-not-has_earlier_parent.false c.has_earlier_parent.ensures)

pub returns-then-not-has_earlier_parent : goal.returns-then-not-has_earlier_parent
returns-then-not-has_earlier_parent g c =
    let m = g.G.Heights.map c.args.surface.now in (
      c.loop-k.k,
      rw c.len-k-end.ensures at c.loop-k-test.true,
      c.loop-k.invariant,
      test-fails c.has_earlier_parent.result c.if-not-has_earlier_parent.true c.has_earlier_parent.ensures,
      c.position_in.ensures
          ∙ ap (λ (x : AuditLine). position_at m.size x.index) c.at.ensures,
    )
