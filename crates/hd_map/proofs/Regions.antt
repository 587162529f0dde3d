-- A map has one list of regions, in which each point is labelled with its root.
use Rattle.std.proofs.Common.{◌≡◌, ◌<◌, ℕ, List, length, Option, Some, None, inl, inr, ap, ◌∙◌, sym, subst}
use Rattle.std.specs.Prelude.{unwrap_or, slice_get}
use Rattle.std.proofs.lemmas.List.{ext_get_or}
use Rattle.std.proofs.lemmas.Option.{same_Some, unwrap_or-slice_get}
use Rattle.hd_map.specs.declared.types.Pos.{Pos}
use Rattle.hd_map.specs.declared.types.Rank.{Rank}
use Rattle.hd_map.specs.declared.types.SideName.{SideName}
use Rattle.hd_map.specs.Map.{Map, IsMap, InGrid, place_of, position_at, cell_count}
use Rattle.hd_map.specs.Passes.{IsLabelled}
use Rattle.hd_map.specs.Rank.{IsPoint, rank}
use Rattle.hd_map.specs.Region.{AreRegions, IsRoot}
use Rattle.hd_map.proofs.Points.{position_at-inside, position_at-place, present_or_not, same_index}
use Rattle.hd_map.proofs.Nexts.{root-is_pit, root-unique}

-- lists of one length are one if their elements are
ext_slice_get : (a b : List (Option ℕ)) → length a ≡ length b → ((k : ℕ) → k < length a → slice_get a k ≡ slice_get b k) → a ≡ b
ext_slice_get a b e same = ext_get_or None a b e (λ k below.
    sym (unwrap_or-slice_get a k None) ∙ ap (λ (o : Option (Option ℕ)). unwrap_or o None) (same k below) ∙ unwrap_or-slice_get b k None)

-- a map has one list of regions at most
pub regions_one : (m : Map) (side : SideName) (a b : List (Option ℕ)) → IsMap m → AreRegions m side a → AreRegions m side b → a ≡ b
regions_one m side a b whole one other = ext_slice_get a b (one.whole ∙ sym other.whole) (λ k below.
    let inside : k < cell_count m.size = rw (← one.whole) below in
    let at : Pos = position_at m.size k in
    let in_grid : InGrid m.size at = position_at-inside m.size k whole.size.some_points inside in
    let place : place_of m.size at ≡ k = position_at-place m.size k whole.size.some_points in
    let same : slice_get a (place_of m.size at) ≡ slice_get b (place_of m.size at) = elim (present_or_not m at in_grid) [
      | inl here ↦
          let mine = one.present at here in
          let yours = other.present at here in
          mine.2 ∙ ap (λ (r : Rank). Some (Some r.index)) (root-unique m side (rank m at) mine.0 yours.0 mine.1 yours.1) ∙ sym yours.2
      | inr not ↦ one.absent at in_grid not ∙ sym (other.absent at in_grid not)
    ] in
    ap (slice_get a) (sym place) ∙ same ∙ ap (slice_get b) place)

module _ (m : Map) (side : SideName) (labels : List (Option ℕ)) (regions : AreRegions m side labels) where
  -- a point has a root, and is labelled with it
  pub region-of : (x : Rank) (point : IsPoint m x) → (r : Rank) × IsRoot m side x r × IsLabelled m labels x r
  region-of x point =
      let found = regions.present point.at point.present in
      let root : IsRoot m side x found.0 = subst (λ (y : Rank). IsRoot m side y found.0) (sym point.rank_is) found.1 in
      let place : place_of m.size point.at ≡ x.index = ap (λ (y : Rank). y.index) (sym point.rank_is) in
      (found.0, root, record { point = point; low = (root-is_pit m side x found.0 root).point; label = ap (λ k. slice_get labels k) (sym place) ∙ found.2 })

  -- with no other
  pub labelled-root : (x a : Rank) → IsLabelled m labels x a → IsRoot m side x a
  labelled-root x a h =
      let r = region-of x h.point in
      let one : Some (r.0).index ≡ Some a.index = same_Some (Some (r.0).index) (Some a.index) (sym (r.2).label ∙ h.label) in
      subst (λ (y : Rank). IsRoot m side x y) (same_index m r.0 a (r.2).low h.low (same_Some (r.0).index a.index one)) r.1

  pub root-labelled : (x a : Rank) → IsPoint m x → IsRoot m side x a → IsLabelled m labels x a
  root-labelled x a point root = let r = region-of x point in subst (λ (y : Rank). IsLabelled m labels x y) (root-unique m side x r.0 a r.1 root) r.2
