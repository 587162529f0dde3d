use Rattle.std.proofs.Common.{ℕ, List, eqb, not, take, sym, ap, ◌∙◌, arith, w8}
use lib.Count.{count_trailing_zeros}
use Rattle.std.proofs.lemmas.Simd.{length-chunk, bitmask_splat, leading_from_mask_l, trailing_mask_l}
use Rattle.hd_sdf_read.specs.Tokens.{is_not_space}
use Rattle.hd_sdf_read.proofs.token.leading_spaces.Goals as goal

pub returns-then-others-eq0 : goal.returns-then-others-eq0
returns-then-others-eq0 c =
    let block : List ℕ = take 16 c.args.text.now in
    let long = length-chunk 0 16 c.args.text.now c.requires in
    let others = bitmask_splat w8 (λ a b. not (eqb a b)) block 16 32 long (omega arith) in
    sym (leading_from_mask_l is_not_space block (sym others ∙ c.if-others-eq0.true) ∙ long)

pub returns-else-others-eq0 : goal.returns-else-others-eq0
returns-else-others-eq0 c =
    let block : List ℕ = take 16 c.args.text.now in
    let long = length-chunk 0 16 c.args.text.now c.requires in
    let others = bitmask_splat w8 (λ a b. not (eqb a b)) block 16 32 long (omega arith) in
    ap (count_trailing_zeros 64) others ∙ trailing_mask_l is_not_space 64 block (omega arith) (omega arith)
