use Rattle.std.proofs.Common.{◌∙◌, [], Err, ap, inl, inr, sym}
use Rattle.std.proofs.lemmas.Result.{err_from_is_err_and}
use Rattle.hd_check.specs.Reading.{value_of}
use Rattle.hd_audit.specs.Stages.{go_on, numbered}
use Rattle.hd_audit.specs.declared.stage.Stage.{Stage}
use Rattle.hd_audit.proofs.Pieces.{go_on-ends_early, go_on-front, go_on-refused, words_in-last}
use Rattle.hd_audit.proofs.part.PartAudit.ended.Goals as goal

pub returns-in_err-stage : goal.returns-in_err-stage
returns-in_err-stage c =
    let part = c.args.self in
    let joined = words_in-last part.rest c.as_slice.result.now c.as_slice.ensures in
    let p = err_from_is_err_and c.from_residual.result c.from_residual.ensures.1 in
    rw (p.1, p.2) (elim c.in_err-stage.ensures.text [
      | inl memory ↦ inl (ap Err memory)
      | inr bad ↦ inr (sym (ap value_of (go_on-refused part.stage part.number _ _ _ joined _ bad)))
    ])

pub returns-in-End : goal.returns-in-End
returns-in-End c =
    let part = c.args.self in
    let joined = words_in-last part.rest c.as_slice.result.now c.as_slice.ensures in
    let read = go_on-front part.stage part.number _ _ _ joined c.in_ok-stage.stage c.in_ok-stage.number c.in_ok-stage.ensures.text in
    inr (sym (ap value_of read ∙ ap (λ (s : Stage). value_of (go_on s (numbered c.in_ok-stage.number []))) c.in-End.is))

pub returns : goal.returns
returns c =
    let part = c.args.self in
    let joined = words_in-last part.rest c.as_slice.result.now c.as_slice.ensures in
    let read = go_on-front part.stage part.number _ _ _ joined c.in_ok-stage.stage c.in_ok-stage.number c.in_ok-stage.ensures.text in
    inr (sym (ap value_of read ∙ go_on-ends_early c.in_ok-stage.stage c.in_ok-stage.number c.in_default.not-End))
