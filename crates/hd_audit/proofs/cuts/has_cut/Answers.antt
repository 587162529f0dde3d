use Rattle.std.proofs.Common.{ap, sym, ◌∙◌}
use Rattle.std.proofs.lemmas.Bool.{false≢true}
use Rattle.hd_audit.specs.declared.types.AuditLine.{AuditLine}
use Rattle.hd_audit.proofs.FailedTests.{option_eq-some}
use Rattle.hd_audit.proofs.NotedLines.{place_at-cut, HasCut-at, HasCut-none}
use Rattle.hd_audit.proofs.cuts.has_cut.Goals as goal

pub at-requires : goal.at-requires
at-requires g c = (c.requires.noted.only c.args.index c.in-Some.place (sym c.in-Some.ensures)).0

pub returns-in-Some : goal.returns-in-Some
returns-in-Some g c =
    let m = g.G.Heights.map c.args._surface.now in
    let at = sym c.in-Some.ensures in
    let there = HasCut-at m c.args.lines.now c.args.places.now c.requires c.args.index c.in-Some.place c.args.cut at in
    let back = place_at-cut m c.args.lines.now c.args.places.now c.requires c.args.index c.in-Some.place c.args.cut at in
    let is = option_eq-some c.at.result.cut c.args.cut in
    let same = ap (λ (x : AuditLine). x.cut) c.at.ensures in
    (λ t. there (sym same ∙ is.0 (sym c.eq.ensures ∙ t)), λ h. c.eq.ensures ∙ is.1 (same ∙ back h))

pub returns-in-None : goal.returns-in-None
returns-in-None g c = (
  λ e. absurd (false≢true e),
  λ h. absurd (HasCut-none (g.G.Heights.map c.args._surface.now) c.args.lines.now c.args.places.now c.requires c.args.index
      c.args.cut (sym c.in-None.ensures) h),
)
