use Rattle.std.proofs.Common.{[], sym, ap, ◌∙◌, append-nil}
use Rattle.hd_sdf_read.specs.Grammar.{file_in, version_of_line}
use Rattle.hd_sdf_read.specs.States.{continued}
use Rattle.hd_sdf_read.specs.declared.state.State.{State}
use Rattle.hd_sdf_read.proofs.HeaderPieces.{file_in-no_version_alone, file_in-version_alone}
use Rattle.hd_sdf_read.proofs.state.ended.Goals as goal

pub returns-in-Some-clause-text : goal.returns-in-Some-clause-text
returns-in-Some-clause-text c = λ refused.
    let line = c.in-Version.line in
    ap (λ (s : State). continued s []) c.in-Version.is ∙ ap file_in (append-nil line.text)
    ∙ file_in-version_alone line.text c.in-Some.field-0 line.open (ap version_of_line (sym c.as_slice.ensures) ∙ sym c.in-Some.ensures)

pub returns-in-Version-clause-text : goal.returns-in-Version-clause-text
returns-in-Version-clause-text c = λ refused.
    let line = c.in-Version.line in
    ap (λ (s : State). continued s []) c.in-Version.is ∙ ap file_in (append-nil line.text)
    ∙ file_in-no_version_alone line.text line.open (ap version_of_line (sym c.as_slice.ensures) ∙ sym c.in-None.ensures)
