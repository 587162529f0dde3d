use Rattle.std.proofs.Common.{ℕ, false, Option, sym, subst, ap, ◌∙◌}
use Rattle.std.specs.Prelude.{◌↔◌, IsTrue, MatchOption, is_some}
use Rattle.std.proofs.lemmas.Bool.{false≢true}
use Rattle.hd_audit.specs.declared.types.AuditLine.{AuditLine}
use Rattle.hd_audit.specs.Lines.{line_at}
use Rattle.hd_audit.specs.Rules.{IsCutOf}
use Rattle.hd_audit.proofs.NotedLines.{place_at-kept}
use Rattle.hd_audit.proofs.parents.has_kept_cut.Goals as goal

pub at-requires : goal.at-requires
at-requires g c = (c.requires.places.noted.only c.in-Some.cut c.in-Some-place_at.place (sym c.in-Some-place_at.ensures)).0

pub returns-then-is_some : goal.returns-then-is_some
returns-then-is_some g c =
    let m = g.G.Heights.map c.args.surface.now in
    let lines = c.args.lines.now in
    let cut = ap (λ (x : AuditLine). x.cut) (sym c.at-line.ensures) ∙ c.in-Some.is in
    let parent = ap (λ (x : AuditLine). is_some x.parent) (sym c.at.ensures) ∙ sym c.is_some.ensures ∙ c.if-is_some.true in
    subst (λ (o : Option ℕ). IsTrue false ↔ MatchOption o (Unit {0}) (IsCutOf m c.args.side lines (line_at lines c.args.k))) (sym cut) (
      λ e. absurd (false≢true e),
      λ h. absurd (let none = place_at-kept m lines c.args.places.now c.requires.places c.in-Some.cut c.in-Some-place_at.place
          (sym c.in-Some-place_at.ensures) h.kept in false≢true (sym (ap is_some none) ∙ parent)),
    )
