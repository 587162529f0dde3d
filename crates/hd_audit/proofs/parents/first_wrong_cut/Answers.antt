use Rattle.std.proofs.Common.{◌∙◌, ap}
use Rattle.hd_map.specs.Map.{position_at}
use Rattle.std.specs.Prelude.{MatchOption}
use Rattle.hd_audit.specs.declared.types.AuditLine.{AuditLine}
use Rattle.hd_audit.specs.Lines.{line_at}
use Rattle.hd_audit.specs.Rules.{IsCutOf}
use Rattle.hd_audit.proofs.FailedTests.{test-fails, test-holds, below-more}
use Rattle.hd_audit.proofs.parents.first_wrong_cut.Goals as goal

pub loop-k-preserved : goal.loop-k-preserved
loop-k-preserved g c =
    let m = g.G.Heights.map c.args.surface.now in
    below-more (λ i. MatchOption (line_at c.args.lines.now i).cut (Unit {0}) (IsCutOf m c.args.side c.args.lines.now (line_at c.args.lines.now i))) c.loop-k.k c.loop-k.invariant
    (test-holds c.has_kept_cut.result c.if-not-has_kept_cut.false c.has_kept_cut.ensures)

pub returns-then-not-has_kept_cut : goal.returns-then-not-has_kept_cut
returns-then-not-has_kept_cut g c =
    let m = g.G.Heights.map c.args.surface.now in (
      c.loop-k.k,
      rw c.len-k-end.ensures at c.loop-k-test.true,
      c.loop-k.invariant,
      test-fails c.has_kept_cut.result c.if-not-has_kept_cut.true c.has_kept_cut.ensures,
      c.position_in.ensures ∙ ap (λ (x : AuditLine). position_at m.size x.index) c.at.ensures,
    )
