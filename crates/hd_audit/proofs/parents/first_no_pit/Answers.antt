use Rattle.hd_map.specs.Map.{position_at}
use Rattle.std.proofs.Common.{◌≡◌, ◌∙◌, None, ap, subst}
use Rattle.hd_audit.specs.declared.types.AuditLine.{AuditLine}
use Rattle.hd_audit.specs.Lines.{line_at}
use Rattle.hd_audit.specs.Rules.{IsKeptPit}
use Rattle.hd_audit.proofs.FailedTests.{test-fails, test-holds, below-more}
use Rattle.hd_audit.proofs.parents.first_no_pit.Goals as goal

pub loop-k-preserved : goal.loop-k-preserved
loop-k-preserved g c =
    let m = g.G.Heights.map c.args.surface.now in
    below-more (λ i. (line_at c.args.lines.now i).parent ≡ None → IsKeptPit m c.args.side (line_at c.args.lines.now i)) c.loop-k.k c.loop-k.invariant
    (subst (λ (x : AuditLine). x.parent ≡ None → IsKeptPit m c.args.side x) c.at-line.ensures
    (test-holds c.is_right_without_parent.result c.if-not-is_right_without_parent.false c.is_right_without_parent.ensures))

pub returns-then-not-is_right_without_parent : goal.returns-then-not-is_right_without_parent
returns-then-not-is_right_without_parent g c =
    let m = g.G.Heights.map c.args.surface.now in (
      c.loop-k.k,
      rw c.len-k-end.ensures at c.loop-k-test.true,
      c.loop-k.invariant,
      subst (λ (x : AuditLine). (x.parent ≡ None → IsKeptPit m c.args.side x) → ⊥) c.at-line.ensures
          (test-fails c.is_right_without_parent.result c.if-not-is_right_without_parent.true c.is_right_without_parent.ensures),
      c.position_in.ensures
          ∙ ap (λ (x : AuditLine). position_at m.size x.index) c.at-line.ensures,
    )
