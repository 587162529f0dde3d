use Rattle.std.proofs.Common.{◌≡◌, not, length, take, ap, arith, ◌∙◌, length-drop}
use Rattle.std.specs.List.{position_or_len}
use Rattle.std.proofs.lemmas.List.{length-take-le, take_rest}
use Rattle.std.proofs.lemmas.List.Sums.{prefix_len-le-length}
use Rattle.hd_num.specs.Lines.{without_start}
use Rattle.hd_sdf_read.specs.Tokens.{is_gap, is_not_space}
use Rattle.hd_sdf_read.proofs.TextFronts.{without_start-spaces}
use Rattle.hd_sdf_read.proofs.token.skip_blocks.Goals as goal

pub returns-then-count-lt16-clause-same : goal.returns-then-count-lt16-clause-same
returns-then-count-lt16-clause-same c =
    let text = c.spaces.rest.now in
    let count = c.leading_spaces-count.result in
    ap (without_start is_gap) (take_rest text count) ∙ without_start-spaces 16 count text c.spaces-test.true c.leading_spaces-count.ensures ∙ c.spaces.invariant.same

pub spaces-preserved : goal.spaces-preserved
spaces-preserved c =
    let text = c.spaces.rest.now in
    let within = prefix_len-le-length (λ byte. not (is_not_space byte)) (take 16 text) in
    let block = length-take-le 16 text c.spaces-test.true in
    let all : 16 ≡ position_or_len is_not_space (take 16 text) = omega (arith, c.leading_spaces-count.ensures, c.if-count-lt16.false, within, block) in
    record {
      same = ap (without_start is_gap) (take_rest text 16) ∙ without_start-spaces 16 16 text c.spaces-test.true all ∙ c.spaces.invariant.same;
      few = omega (arith, ap length (take_rest text 16), length-drop 16 text, c.spaces.invariant.few);
    }
