use Rattle.std.proofs.Common.{◌≡◌, ◌+◌, ℕ, inl, inr, subst, arith, None}
use Rattle.std.proofs.lemmas.Bool.{cases_lt}
use Rattle.hd_map.specs.Map.{place_of}
use Rattle.hd_check.specs.Rules.{FirstLeak, point_of}
use Rattle.hd_check.proofs.Leaks.{ArePlaces-later}
use Rattle.hd_check.proofs.closed.first_leak.Goals as goal

pub loop-k-preserved : goal.loop-k-preserved
loop-k-preserved g c =
    let m = g.G.Heights.map c.args.surface.now in
    let cut = c.args.cut.now in
    let k = c.loop-k.k in
    record {
      closed = λ i less. elim (cases_lt i k) [
        | inl before ↦ c.loop-k.invariant.closed i before
        | inr here ↦ (let same : k ≡ i = omega (arith, less, here) in subst (λ (j : ℕ). FirstLeak m c.args.side c.args.level cut (point_of cut j) None) same c.in_default.ensures.first)
      ];
      places = λ inside. ArePlaces-later m.size cut (place_of m.size (point_of cut k) + 1) (place_of m.size (point_of cut (k + 1))) c.leak_of.new.places
          (let up = c.requires.rises k (omega (arith, inside)) in omega (arith, up)) c.in_default.ensures.places;
    }
