use Rattle.std.proofs.Common.{◌≡◌, ◌∙◌, ◌++◌, ap, inl, inr}
use Rattle.std.proofs.lemmas.Result.{err_from_is_err_and}
use Rattle.hd_check.specs.Reading.{value_of}
use Rattle.hd_audit.proofs.Pieces.{words_in-first, go_on-front, go_on-refused, words_in-others}
use Rattle.hd_audit.proofs.part.PartAudit.fed.Goals as goal

pub returns-in_err-stage-clause-text : goal.returns-in_err-stage-clause-text
returns-in_err-stage-clause-text c =
    let old = c.args.self in
    let line : c.as_slice.result.now ≡ old.rest ++ c.in-Some.first.now = c.as_slice.ensures ∙ c.in_ok-extend_from_slice-2.ensures.ok in
    let joined = words_in-first old.rest c.in-Some.first.now c.in-Some.others.now c.args.piece.now c.as_slice.result.now line c.in-Some.ensures in
    let p = err_from_is_err_and c.from_residual-in_err-stage.result c.from_residual-in_err-stage.ensures.1 in
    rw (p.1, p.2) (elim c.in_err-stage.ensures.text [
      | inl memory ↦ inl memory
      | inr bad ↦ inr (λ more. ap value_of (go_on-refused old.stage old.number _ _ _ (joined more) _ bad))
    ])

pub returns-in_err-stage-2-clause-text : goal.returns-in_err-stage-2-clause-text
returns-in_err-stage-2-clause-text c =
    let old = c.args.self in
    let line : c.as_slice.result.now ≡ old.rest ++ c.in-Some.first.now = c.as_slice.ensures ∙ c.in_ok-extend_from_slice-2.ensures.ok in
    let joined = words_in-first old.rest c.in-Some.first.now c.in-Some.others.now c.args.piece.now c.as_slice.result.now line c.in-Some.ensures in
    let others = words_in-others c.in-Some.others.now c.whole_lines.result.0.now c.whole_lines.result.1.now c.whole_lines.ensures.whole c.whole_lines.ensures.ends in
    let p = err_from_is_err_and c.from_residual-in_err-stage-2.result c.from_residual-in_err-stage-2.ensures.1 in
    rw (p.1, p.2) (elim c.in_err-stage-2.ensures.text [
      | inl memory ↦ inl memory
      | inr bad ↦ inr (λ more. ap value_of (
          go_on-front old.stage old.number _ _ _ (joined more) c.in_ok-stage.stage c.in_ok-stage.number c.in_ok-stage.ensures.text
          ∙ go_on-refused c.in_ok-stage.stage c.in_ok-stage.number _ _ _ (others more) _ bad))
    ])

pub returns-clause-text : goal.returns-clause-text
returns-clause-text c = λ more.
    let old = c.args.self in
    let line : c.as_slice.result.now ≡ old.rest ++ c.in-Some.first.now = c.as_slice.ensures ∙ c.in_ok-extend_from_slice-2.ensures.ok in
    let joined = words_in-first old.rest c.in-Some.first.now c.in-Some.others.now c.args.piece.now c.as_slice.result.now line c.in-Some.ensures in
    let others = words_in-others c.in-Some.others.now c.whole_lines.result.0.now c.whole_lines.result.1.now c.whole_lines.ensures.whole c.whole_lines.ensures.ends in
    rw c.in_ok-rest.ensures (ap value_of (
    go_on-front old.stage old.number _ _ _ (joined more) c.in_ok-stage.stage c.in_ok-stage.number c.in_ok-stage.ensures.text
    ∙ go_on-front c.in_ok-stage.stage c.in_ok-stage.number _ _ _ (others more) c.in_ok-stage-2.stage c.in_ok-stage-2.number c.in_ok-stage-2.ensures.text))
