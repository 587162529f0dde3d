use Rattle.std.proofs.Common.{Result, sym, ap, ◌∙◌}
use Rattle.hd_sdf_read.specs.declared.error.SdfError.{SdfError}
use Rattle.hd_sdf_read.specs.Bodies.{Surveyed}
use Rattle.hd_sdf_read.specs.RequiredKeys.{required_keys_of}
use Rattle.hd_sdf_read.specs.Views.{required_keys_view}
use Rattle.hd_sdf_read.specs.Reads.{◌>>=◌}
use Rattle.hd_sdf_read.proofs.BodyPieces.{body_in-begins, filed_with}
use Rattle.hd_sdf_read.proofs.Grammar.{body_in-no_required_keys}
use Rattle.hd_sdf_read.proofs.state.begin.Goals as goal

pub returns-in-Err : goal.returns-in-Err
returns-in-Err c = λ refused more.
    let h = c.args.header in
    body_in-no_required_keys h.version h.entries more c.in-Err.refusal (ap required_keys_of (sym c.as_slice.ensures) ∙ c.in-Err.ensures.frame refused)

pub returns : goal.returns
returns c = λ more.
    let h = c.args.header in
    let frame = required_keys_view c.in-Ok.frame in
    body_in-begins h.version h.entries frame more (ap required_keys_of (sym c.as_slice.ensures) ∙ c.in-Ok.ensures.frame)
    ∙ ap (λ (r : Result Surveyed SdfError). r >>= filed_with h.version h.entries frame) (c.in_ok-body.ensures more)
