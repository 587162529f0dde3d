-- The stops of a flood line: their lows have different indexes, and there are no more of them than lows.
use Rattle.std.proofs.Common.{◌≡◌, ◌≢◌, ◌∙◌, ℕ, ◌<◌, ◌≤◌, ◌^◌, List, length, map, Some, refl, sym, ap, subst, arith, slice_get}
use Rattle.std.specs.Prelude.{AllPairs, Contains}
use Rattle.std.proofs.lemmas.Bool.Decides.{Decides-eqb}
use Rattle.std.proofs.lemmas.Cmp.{nat_eq_equiv}
use Rattle.std.proofs.lemmas.List.{length-map}
use Rattle.std.proofs.lemmas.Map.Made.{IsDistinct-from_AllPairs, length-le_from_is_member}
use Rattle.std.proofs.lemmas.Map.Views.{Contains-from_any, list_any-from_Contains}
use Rattle.std.proofs.lemmas.Option.{same_Some}
use Rattle.std.proofs.lemmas.Bool.{eqb-true}
use Rattle.hd_map.proofs.Items.{Contains-map, map-Contains}
use Rattle.hd_graph.specs.declared.graph.Low.{Low}
use Rattle.hd_graph.specs.declared.line.Stop.{Stop}
use Rattle.hd_graph.specs.Line.{AreStopsOf, EachOnce, IsLine}
use Rattle.hd_graph.proofs.NumberedLinks.{one_low}
use Rattle.hd_map.proofs.Places.{at_place, one_place, pairs-of_map, pairs_from_places, place_of}

module _ (lows : List Low) (different : AllPairs (λ x y. x.rank.index ≢ y.rank.index) lows) (line : List Stop) (are : AreStopsOf lows line) (once : EachOnce line) where
  low_for : (x : Stop) → Contains line x → Contains lows (record { rank = x.low; pit = x.pit })
  low_for x at = (are (record { rank = x.low; pit = x.pit })).1 (x, at, refl, refl)

  -- stops whose lows have one index are one
  one_index : (i j : ℕ) (x y : Stop) → slice_get line i ≡ Some x → slice_get line j ≡ Some y → x.low.index ≡ y.low.index → i ≡ j
  one_index i j x y atx aty e =
      let a = place_of lows (record { rank = x.low; pit = x.pit }) (low_for x (at_place line i x atx)) in
      let b = place_of lows (record { rank = y.low; pit = y.pit }) (low_for y (at_place line j y aty)) in
      let same : a.0 ≡ b.0 = one_low lows different a.0 b.0 (record { rank = x.low; pit = x.pit }) (record { rank = y.low; pit = y.pit }) a.1 b.1 e in
      let low : record { rank = x.low; pit = x.pit } ≡ record { rank = y.low; pit = y.pit } = same_Some (record { rank = x.low; pit = x.pit })
      (record { rank = y.low; pit = y.pit }) (sym a.1 ∙ ap (λ k. slice_get lows k) same ∙ b.1) in
      one_place (λ (z : Stop). z.low) line once i j x y atx aty (ap (λ (z : Low). z.rank) low)

  -- there are no more stops than lows
  few_stops : length line ≤ length lows
  few_stops =
      let xs : List ℕ = map {A = Stop} {B = ℕ} (λ x. x.low.index) line in
      let ys : List ℕ = map {A = Low} {B = ℕ} (λ x. x.rank.index) lows in
      let apart : AllPairs (λ a b. a ≢ b) xs = pairs-of_map (λ (x : Stop). x.low.index) line (pairs_from_places (λ (x : Stop). x.low.index) line one_index) in
      let few = length-le_from_is_member nat_eq_equiv xs ys (IsDistinct-from_AllPairs Decides-eqb xs apart)
      (λ q h.
      let s = Contains-map (λ (x : Stop). x.low.index) line q (Contains-from_any eqb-true q xs h) in
      list_any-from_Contains nat_eq_equiv q ys (subst (λ n. Contains ys n) s.2 (map-Contains (λ (x : Low). x.rank.index) lows (record { rank = (s.0).low; pit = (s.0).pit }) (low_for s.0 s.1)))) in
      let long = length-map line (λ (x : Stop). x.low.index) in
      let long' = length-map lows (λ (x : Low). x.rank.index) in
      omega (arith, few, long, long')

  -- so they are a line
  pub stops-line : length lows < 2 ^ 31 → IsLine line
  stops-line few = record { different = pairs_from_places (λ (x : Stop). x.low.index) line one_index; few = (let less = few_stops in omega (arith, few, less)) }
