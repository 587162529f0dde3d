use Rattle.std.proofs.Common.{◌∙◌, List, ℕ, true, false, subst}
use Rattle.hd_audit.specs.Reading.{audit_of}
use Rattle.hd_audit.specs.Rules as pruning
use Rattle.hd_map.specs.Surface.{map_of}
use Rattle.hd_run.specs.declared.certificate_reader.CertificateReader.{CertificateReader}
use Rattle.hd_run.specs.CertificateReader.{StandsFor}
use Rattle.hd_run.specs.Outcome.{IsOutcomeOfKind}
use Rattle.hd_run.specs.RunResult.{IsJudgedAs}
use Rattle.hd_run.proofs.IsOfKind.{IsJudged-by_kind, IsJudgedAs-read}
use Rattle.hd_run.proofs.check.judge.Goals as goal

pub returns-in-Saddle-clause-judged : goal.returns-in-Saddle-clause-judged
returns-in-Saddle-clause-judged c = λ bytes stands.
    let m = map_of c.args.surface.now in
    let read = subst (λ (r : CertificateReader). StandsFor r bytes) c.in-Saddle.is stands in
    IsJudged-by_kind m false bytes c.judge_saddle.result read.1
    (subst (λ (xs : List ℕ). IsJudgedAs (IsOutcomeOfKind false m xs) c.judge_saddle.result) (c.as_slice-in-Saddle.ensures ∙ read.0) c.judge_saddle.ensures.judged)

pub returns-in-Pruning-clause-judged : goal.returns-in-Pruning-clause-judged
returns-in-Pruning-clause-judged c = λ bytes stands.
    let m = map_of c.args.surface.now in
    let read = subst (λ (r : CertificateReader). StandsFor r bytes) c.in-Pruning.is stands in
    IsJudged-by_kind m true bytes c.judge_pruning.result read.1
    (IsJudgedAs-read (pruning.IsVerdict m) c.finish.result (audit_of bytes) c.judge_pruning.result (c.finish.ensures.text bytes read.0) c.judge_pruning.ensures.judged)
