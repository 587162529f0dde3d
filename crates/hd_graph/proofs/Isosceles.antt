-- Saddles by way of a third point: the two highest of the saddles of three points are one.
use Rattle.std.proofs.Common.{◌≡◌, true, false, inl, inr, subst}
use Rattle.hd_map.specs.declared.types.Rank.{Rank}
use Rattle.hd_map.specs.declared.types.SideName.{SideName}
use Rattle.hd_map.specs.Map.{Map}
use Rattle.hd_map.specs.Order.{IsNotAbove}
use Rattle.hd_map.specs.Passes.{higher_by}
use Rattle.hd_map.specs.Rank.{Near, below_by}
use Rattle.hd_map.specs.Saddle.{IsSaddle}
use Rattle.hd_map.specs.SideLaws.{below_by-order}
use Rattle.hd_map.proofs.Levels.{PointStep, Reach, path-from_reach, reach-higher, reach-trans}
use Rattle.hd_map.proofs.Saddles.{level-from_saddle, saddle-exists, saddle-sym, saddle-ultrametric, saddle-unique}
use Rattle.hd_map.proofs.Order.{below-not_above, not_above-refl, not_above-trans}
use Rattle.hd_map.proofs.Higher.{higher-bounds, higher-least}

module _ (m : Map) (side : SideName) where
  -- where the saddles of a and b and of b and c are not above w, that of a and c is not above it
  pub saddle-through : (a b c u s w : Rank) → IsSaddle m side a b u → IsSaddle m side b c s → IsNotAbove (below_by side) u w → IsNotAbove (below_by side) s w → (v : Rank)
      × IsSaddle m side a c v × IsNotAbove (below_by side) v w
  saddle-through a b c u s w near far low low' =
      let below = below_by side in
      let order = below_by-order side in
      let l = level-from_saddle m side a b u near in
      let k = level-from_saddle m side b c s far in
      let from : IsNotAbove below a w = not_above-trans below order a u w l.from_low low in
      let joined : Reach (PointStep (Near m) below w) a c = reach-trans (PointStep (Near m) below w) (reach-higher (Near m) below order u w low l.joined)
      (reach-higher (Near m) below order s w low' k.joined) in
      let path = path-from_reach (Near m) below order w from joined in
      let is = saddle-exists m side a c path.0 (record { point = near.reached.1.point; leads = path.1 }) in
      (is.0, is.1, (level-from_saddle m side a c is.0 is.1).least w from joined)

  -- where a and b meet below the saddle of b and c, that is the saddle of a and c too
  pub saddle-isosceles : (a b c u s : Rank) → IsSaddle m side a b u → IsSaddle m side b c s → below_by side u s ≡ true → IsSaddle m side a c s
  saddle-isosceles a b c u s near far less =
      let below = below_by side in
      let order = below_by-order side in
      let v = saddle-through a b c u s s near far (below-not_above below order u s less) (not_above-refl below order s) in
      let up : IsNotAbove below s v.0 = elim (saddle-ultrametric m side b a c u v.0 s (saddle-sym m side a b u near) v.1 far) [
        | inl wrong ↦ absurd (let right = less in let not : below u s ≡ false = wrong in cc)
        | inr right ↦ right
      ] in
      subst (λ z. IsSaddle m side a c z) (order.total v.0 s up v.2) v.1

  -- where the saddle of a and c is not below that of a and b, it is the higher of that and the one of b and c
  pub saddle-higher : (a b c u s : Rank) → IsSaddle m side a b u → IsSaddle m side b c s → ((v : Rank) → IsSaddle m side a c v → IsNotAbove (below_by side) u v)
      → IsSaddle m side a c (higher_by side u s)
  saddle-higher a b c u s near far over =
      let order = below_by-order side in
      let high = higher-bounds side u s in
      let v = saddle-through a b c u s (higher_by side u s) near far high.0 high.1 in
      let from : IsNotAbove (below_by side) u v.0 = over v.0 v.1 in
      let w = saddle-through b a c u v.0 v.0 (saddle-sym m side a b u near) v.1 from (not_above-refl (below_by side) order v.0) in
      let up : IsNotAbove (below_by side) s v.0 = subst (λ z. IsNotAbove (below_by side) z v.0) (saddle-unique m side b c w.0 s w.1 far) w.2 in
      subst (λ z. IsSaddle m side a c z) (order.total v.0 (higher_by side u s) (higher-least side u s v.0 from up) v.2) v.1
