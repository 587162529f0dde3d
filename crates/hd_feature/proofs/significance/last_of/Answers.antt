use Rattle.std.proofs.Common.{◌≡◌, ◌∙◌, ◌+◌, ◌∷◌, ◌++◌, length, map, subst, rules, arith}
use Rattle.std.specs.List.Sorted.{IsPermutation, IsSplitAroundBy}
use Rattle.std.proofs.lemmas.List.Sorted.{answers_always}
use Rattle.hd_feature.specs.Cut.{is_ahead, key_of}
use Rattle.hd_feature.proofs.Cuts.{ahead-order, is_among-first}
use Rattle.hd_feature.proofs.significance.last_of.Goals as goal

pub returns : goal.returns
returns c = λ r.
    let front = c.select_nth_unstable_by-last.result.0.now in
    let last = c.select_nth_unstable_by-last.result.1.now in
    let back = c.select_nth_unstable_by-last.result.2.now in
    let permuted : IsPermutation (map key_of c.args.regions.now) (front ++ last ∷ back) = subst (λ xs. IsPermutation xs (front ++ last ∷ back))
    (c.deref_mut.ensures.value ∙ c.in_ok-keys.ensures) c.select_nth_unstable_by-last.ensures.permutation in
    let split : IsSplitAroundBy is_ahead front last back = c.select_nth_unstable_by-last.ensures.partitioned is_ahead ahead-order (answers_always _ _ _ (λ f a r h k. search rules)) in
    let count : c.args.number ≡ length front + 1 = omega (arith, c.select_nth_unstable_by-last.ensures.front_len) in
    is_among-first c.args.regions.now front last back c.args.number r permuted split count
