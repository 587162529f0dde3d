use Rattle.std.proofs.Common.{◌≡◌, ◌<◌, ◌++◌, List, [], ℕ, length, eqb, get_or, false, sym, ap, subst, ◌∙◌}
use Rattle.hd_sdf_read.specs.Tokens.{is_gap}
use Rattle.hd_sdf_read.specs.PartTrailers.{trailer_in}
use Rattle.hd_sdf_read.proofs.States.{length-none}
use Rattle.hd_sdf_read.proofs.PartTrailers.{trailer_in-skipped, without_start-begins}
use Rattle.hd_sdf_read.proofs.part_trailer.PartTrailer.first_of.Goals as goal

pub returns-then-is_empty-clause-same : goal.returns-then-is_empty-clause-same
returns-then-is_empty-clause-same c = λ more.
    let text = c.args.self.now.text in
    let piece = c.args.piece.now in
    let none : text ≡ [] = length-none text (ap (λ (t : List ℕ). eqb (length t) 0) (sym c.as_slice.ensures) ∙ sym c.is_empty.ensures ∙ c.if-is_empty.true) in
    ap (λ (t : List ℕ). trailer_in (t ++ (piece ++ more))) none ∙ trailer_in-skipped piece more
    ∙ ap (λ (t : List ℕ). trailer_in (t ++ more)) (sym c.skip_gaps.ensures) ∙ ap (λ (t : List ℕ). trailer_in (t ++ (c.skip_gaps.result.now ++ more))) (sym none)

pub returns-then-is_empty-clause-begins : goal.returns-then-is_empty-clause-begins
returns-then-is_empty-clause-begins c =
    let text = c.args.self.now.text in
    let none : text ≡ [] = length-none text (ap (λ (t : List ℕ). eqb (length t) 0) (sym c.as_slice.ensures) ∙ sym c.is_empty.ensures ∙ c.if-is_empty.true) in
    subst (λ (t : List ℕ). 0 < length (t ++ c.skip_gaps.result.now) → is_gap (get_or (t ++ c.skip_gaps.result.now) 0 0) ≡ false) (sym none)
    (subst (λ (t : List ℕ). 0 < length t → is_gap (get_or t 0 0) ≡ false) (sym c.skip_gaps.ensures) (without_start-begins c.args.piece.now))
