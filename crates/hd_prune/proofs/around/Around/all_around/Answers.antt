use Rattle.std.proofs.Common.{ℕ, ◌<◌, inl, inr, None, length, ◌∙◌, arith}
use Rattle.std.proofs.lemmas.List.{get_or-set_other, get_or-set_same, length-set}
use Rattle.hd_map.proofs.Places.{less_same_more}
use Rattle.hd_prune.proofs.around.Around.all_around.Goals as goal

pub loop-k-preserved : goal.loop-k-preserved
loop-k-preserved g c =
    let n : ℕ = c.loop-k.k in
    let all = c.loop-k.all in
    let inside : n < length all = omega (arith, c.loop-k.invariant.whole, c.loop-k-test.true) in
    record {
      whole = length-set all n c.around.result ∙ c.loop-k.invariant.whole;
      so = λ k less. elim (less_same_more k n) [
        | inl before ↦ rw (get_or-set_other all n k c.around.result None (λ same. omega (arith, before, same))) (c.loop-k.invariant.so k before)
        | inr rest ↦ elim rest [
          | inl same ↦ rw (same, get_or-set_same all n c.around.result None inside) c.around.ensures
          | inr after ↦ absurd (omega (arith, less, after))
        ]
      ];
    }
