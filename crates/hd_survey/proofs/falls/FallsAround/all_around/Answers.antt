use Rattle.std.proofs.Common.{ℕ, ◌<◌, inl, inr, None, length, ◌∙◌, subst, arith}
use Rattle.std.proofs.lemmas.List.{get_or-set_other, get_or-set_same, length-set}
use Rattle.hd_map.proofs.Places.{less_same_more}
use Rattle.hd_prune.specs.Around.{IsLowerNeighbourAt}
use Rattle.hd_survey.proofs.falls.FallsAround.all_around.Goals as goal

pub loop-k-preserved : goal.loop-k-preserved
loop-k-preserved g c =
    let n : ℕ = c.loop-k.k in
    let all = c.loop-k.all in
    let inside : n < length all = omega (arith, c.loop-k.invariant.whole, c.loop-k-test.true) in
    let here = subst (λ f. IsLowerNeighbourAt (g.G.Heights.map f.0) g.S.Side.NAME c.args.saddle n c.fall_at.result) c.self.view_is c.fall_at.ensures in
    record {
      whole = length-set all n c.fall_at.result ∙ c.loop-k.invariant.whole;
      so = λ k less. elim (less_same_more k n) [
        | inl before ↦ rw (get_or-set_other all n k c.fall_at.result None (λ same. omega (arith, before, same))) (c.loop-k.invariant.so k before)
        | inr rest ↦ elim rest [
          | inl same ↦ rw (same, get_or-set_same all n c.fall_at.result None inside) here
          | inr after ↦ absurd (omega (arith, less, after))
        ]
      ];
    }
