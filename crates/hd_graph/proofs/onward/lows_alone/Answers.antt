use Rattle.std.proofs.Common.{◌≡◌, ◌++◌, ◌∷◌, [], inl, inr, arith, List, ℕ}
use Rattle.std.proofs.lemmas.List.{length_push}
use Rattle.hd_map.proofs.Places.{get-push_cases}
use Rattle.hd_graph.proofs.onward.lows_alone.Goals as goal

pub loop-low-preserved : goal.loop-low-preserved
loop-low-preserved c =
    let old : List ℕ = c.loop-low.parts.items in
    let low : ℕ = c.loop-low.low in
    let items : c.push.new.self.items ≡ old ++ low ∷ [] = c.in_ok-push.ensures.items in
    let long = c.loop-low.invariant.long in
    record {
      long = rw (items, length_push) (omega (arith, long));
      own = λ x e h. elim (get-push_cases old low e x (rw items at h)) [
        | inl before ↦ c.loop-low.invariant.own x e before
        | inr last ↦ omega (arith, last.0, last.1, long)
      ];
    }
