use Rattle.std.proofs.Common.{◌≡◌, ◌++◌, ℕ, List, [], sym, ap, ◌∙◌}
use Rattle.hd_num.specs.Lines.{without_start}
use Rattle.hd_sdf_read.specs.Tokens.{is_gap}
use Rattle.hd_sdf_read.proofs.TokenCuts.{without_start-first, without_start-twice}
use Rattle.hd_sdf_read.proofs.WholeCuts.{length-nothing}
use Rattle.hd_sdf_read.proofs.joining.behind.Goals as goal

pub returns-then-is_empty-clause-same : goal.returns-then-is_empty-clause-same
returns-then-is_empty-clause-same c = λ more.
    let none : c.args.token.now.text ≡ [] = sym c.as_slice.ensures ∙ length-nothing c.as_slice.result.now (sym c.is_empty.ensures ∙ c.if-is_empty.true) in
    ap (λ (t : List ℕ). without_start is_gap (t ++ (c.args.text.now ++ more))) none ∙ without_start-twice c.args.text.now more
    ∙ ap (λ (t : List ℕ). without_start is_gap (t ++ more)) (sym c.skip_gaps.ensures)
    ∙ sym (ap (λ (t : List ℕ). without_start is_gap (t ++ (c.skip_gaps.result.now ++ more))) none)

pub returns-then-is_empty-clause-begins : goal.returns-then-is_empty-clause-begins
returns-then-is_empty-clause-begins c = λ _ some. rw c.skip_gaps.ensures (without_start-first c.args.text.now (rw c.skip_gaps.ensures at some))
