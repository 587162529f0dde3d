use Rattle.std.proofs.Common.{◌≡◌, ◌∙◌, Bool, List, ℕ, [], true, ap, subst, sym}
use Rattle.hd_audit.specs.Reader as audit
use Rattle.hd_num.specs.Lines.{lines_of}
use Rattle.hd_run.specs.CertificateReader.{IsOfKind}
use Rattle.hd_run.specs.Outcome.{begins_pruning}
use Rattle.hd_run.proofs.certificate_reader.begin.Goals as goal

pub returns-in_ok-feed-clause-stands : goal.returns-in_ok-feed-clause-stands
returns-in_ok-feed-clause-stands c =
    let text = c.args.text in
    let kind : begins_pruning (lines_of text) ≡ true = ap (λ (xs : List ℕ). begins_pruning (lines_of xs)) (sym c.as_slice.ensures) ∙ sym c.begins_pruning.ensures ∙ c.if-begins_pruning.true in (
      subst (audit.StandsFor c.feed.new.self) c.as_slice-then-begins_pruning.ensures (c.in_ok-feed.ensures.ok [] c.new-reader.ensures.stands),
      subst
          (λ (k : Bool). IsOfKind k text) kind c.requires.kind,
    )
