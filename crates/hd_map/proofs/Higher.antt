-- The higher of two points, and what is not above another.
use Rattle.std.proofs.Common.{◌≡◌, true, false, cond, refl}
use Rattle.hd_map.specs.declared.types.Rank.{Rank}
use Rattle.hd_map.specs.declared.types.SideName.{SideName}
use Rattle.hd_map.specs.Order.{IsNotAbove, IsStrictOrder}
use Rattle.hd_map.specs.Passes.{higher_by}
use Rattle.hd_map.specs.Rank.{below_by}
use Rattle.hd_map.specs.SideLaws.{below_by-order}
use Rattle.hd_map.proofs.Order.{not_above-trans, not_above-refl, below-not_above}

module _ (side : SideName) where
  abbrev order : IsStrictOrder (below_by side)
  order = below_by-order side

  -- neither of two points is above the higher one
  pub higher-bounds : (a b : Rank) → IsNotAbove (below_by side) a (higher_by side a b) × IsNotAbove (below_by side) b (higher_by side a b)
  higher-bounds a b = elim (below_by side a b) as (λ v. below_by side a b ≡ v → IsNotAbove (below_by side) a (cond v b a) × IsNotAbove (below_by side) b (cond v b a)) [
    | true ↦ λ e. (below-not_above (below_by side) order a b e, not_above-refl (below_by side) order b)
    | false ↦ λ e. (not_above-refl (below_by side) order a, e)
  ] refl

  -- and the higher one is not above what neither of them is above
  pub higher-least : (a b t : Rank) → IsNotAbove (below_by side) a t → IsNotAbove (below_by side) b t → IsNotAbove (below_by side) (higher_by side a b) t
  higher-least a b t one other = elim (below_by side a b) as (λ v. IsNotAbove (below_by side) (cond v b a) t) [ true ↦ other | false ↦ one ]

  -- it is the same both ways
  pub higher-sym : (a b : Rank) → higher_by side a b ≡ higher_by side b a
  higher-sym a b =
      let x = higher-bounds a b in
      let y = higher-bounds b a in
      order.total (higher_by side a b) (higher_by side b a) (higher-least b a (higher_by side a b) x.1 x.0) (higher-least a b (higher_by side b a) y.1 y.0)

  -- and of three it does not matter which two are taken first
  pub higher-assoc : (a b c : Rank) → higher_by side a (higher_by side b c) ≡ higher_by side (higher_by side a b) c
  higher-assoc a b c =
      let below = below_by side in
      let left : Rank = higher_by side a (higher_by side b c) in
      let right : Rank = higher_by side (higher_by side a b) c in
      let ab = higher-bounds a b in
      let bc = higher-bounds b c in
      let l = higher-bounds a (higher_by side b c) in
      let r = higher-bounds (higher_by side a b) c in
      let b_left = not_above-trans below order b (higher_by side b c) left bc.0 l.1 in
      let c_left = not_above-trans below order c (higher_by side b c) left bc.1 l.1 in
      let a_right = not_above-trans below order a (higher_by side a b) right ab.0 r.0 in
      let b_right = not_above-trans below order b (higher_by side a b) right ab.1 r.0 in
      order.total left right (higher-least (higher_by side a b) c left (higher-least a b left l.0 b_left) c_left)
      (higher-least a (higher_by side b c) right a_right (higher-least b c right b_right r.1))

-- what is not above another, and is another, is below it
pub not_above-below : (side : SideName) (a b : Rank) → IsNotAbove (below_by side) a b → (a ≡ b → ⊥) → below_by side a b ≡ true
not_above-below side a b low ne = elim (below_by side a b) as (λ v. below_by side a b ≡ v → v ≡ true) [
  | true ↦ λ e. refl
  | false ↦ λ e. absurd (ne ((below_by-order side).total a b e low))
] refl
