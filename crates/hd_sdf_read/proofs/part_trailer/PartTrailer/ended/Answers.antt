use Rattle.std.proofs.Common.{◌≡◌, List, ℕ, length, take, true, sym, ap, ap₂, subst, ◌∙◌}
use Rattle.hd_num.specs.Lines.{without_end}
use Rattle.hd_sdf_read.specs.File.{is_trailer}
use Rattle.hd_sdf_read.specs.Tokens.{is_gap}
use Rattle.hd_sdf_read.proofs.PartTrailers.{is_trailer-ended, without_end-take}
use Rattle.hd_sdf_read.proofs.part_trailer.PartTrailer.ended.Goals as goal

pub returns-clause-form : goal.returns-clause-form
returns-clause-form c =
    let part = c.args.self in
    let end = c.drop_gaps-end.ensures ∙ ap (without_end is_gap) c.as_slice.ensures in
    let same = c.from_vec.ensures ∙ c.truncate.ensures.items ∙ ap₂ (λ (n : ℕ) (xs : List ℕ). take n xs) (ap length end) c.into_vec-bytes.ensures ∙ without_end-take part.text in
    subst (λ (t : List ℕ). is_trailer t ≡ true) (sym same) (is_trailer-ended part.text part.begins part.few)
