-- Links as they are followed.
use Rattle.std.proofs.Common.{◌≡◌, ◌<◌, ℕ, List, length, slice_index, ◌⊎◌, inl, inr, ap, ◌∙◌, sym, subst, arith}
use Rattle.std.specs.Prelude.{◌↔◌}
use Rattle.hd_map.specs.declared.types.Pos.{Pos}
use Rattle.hd_map.specs.declared.types.Rank.{Rank}
use Rattle.hd_map.specs.declared.types.SideName.{SideName}
use Rattle.hd_map.specs.Map.{Map, IsMap, Present, InGrid, place_of, position_at, cell_count}
use Rattle.hd_map.specs.Rank.{rank, IsPoint}
use Rattle.hd_map.specs.Region.{IsRoot}
use Rattle.hd_map.proofs.Points.{point_inside, same_place, same_index, point_at, present_or_not, position_at-inside, position_at-place}
use Rattle.hd_map.proofs.Nexts.{root-pit}
use Rattle.hd_steep.specs.Links.{no_link, LeadsOnward, NoPointAt, AreLinks, IsRootAt}
use Rattle.hd_steep.proofs.Ways.{onward-falls, depth_at}

module _ (m : Map) where
  -- where no point is present at a position, none has its index
  pub no_point_at : (at : Pos) (k : ℕ) → InGrid m.size at → (Present m at → ⊥) → place_of m.size at ≡ k → NoPointAt m k
  no_point_at at k in_grid not is p point same =
      let e : at ≡ point.at = same_place m.size at point.at in_grid point.present.in_grid (is ∙ sym same ∙ ap (λ (r : Rank). r.index) point.rank_is) in
      not (subst (λ (q : Pos). Present m q) (sym e) point.present)

  -- each index of the map has a point, or none
  pub point_or_none : (k : ℕ) → IsMap m → k < cell_count m.size → ((p : Rank) × IsPoint m p × (k ≡ p.index)) ⊎ NoPointAt m k
  point_or_none k whole below =
      let at : Pos = position_at m.size k in
      let in_grid : InGrid m.size at = position_at-inside m.size k whole.size.some_points below in
      let place : place_of m.size at ≡ k = position_at-place m.size k whole.size.some_points in
      elim (present_or_not m at in_grid) [
        | inl here ↦ inl (rank m at, point_at m at here, sym place)
        | inr not ↦ inr (no_point_at at k in_grid not place)
      ]

module _ (m : Map) (side : SideName) where
  -- an index on the way from another one
  pub record IsOnWay (start here : ℕ) : Type 0 where
    pub first : Rank
    pub first_point : IsPoint m first
    pub first_is : start ≡ first.index
    pub at : Rank
    pub point : IsPoint m at
    pub index_is : here ≡ at.index
    pub same_root : (r : Rank) → IsRoot m side first r ↔ IsRoot m side at r

  module _ (links : List ℕ) (are : AreLinks m side links) where
    -- the index of a point has a link
    pub index_inside : (k : ℕ) (p : Rank) → IsPoint m p → k ≡ p.index → k < length links
    index_inside k p point e = let h = point_inside m p point in let w = are.whole in omega (arith, h, w, e)

    -- the link of a point
    pub link_at : (k : ℕ) (p : Rank) → IsPoint m p → k ≡ p.index → LeadsOnward m side p (slice_index links k)
    link_at k p point e = (are.each k (index_inside k p point e)).point p point (sym e)

    module _ (whole : IsMap m) where
      -- an index below the number of links has the index of a point, or no link
      pub link_or_none : (k : ℕ) → k < length links → ((p : Rank) × IsPoint m p × (k ≡ p.index)) ⊎ (slice_index links k ≡ no_link)
      link_or_none k inside = elim (point_or_none m k whole (rw (← are.whole) inside)) [
        | inl one ↦ inl one
        | inr none ↦ inr ((are.each k inside).none none)
      ]

      -- a way begins where there is a link
      pub way_start : (k : ℕ) → k < length links → (slice_index links k ≡ no_link → ⊥) → IsOnWay k k
      way_start k inside some = elim (link_or_none k inside) [
        | inl (p, point, e) ↦ record { first = p; first_point = point; first_is = e; at = p; point = point; index_is = e; same_root = λ r. (λ h. h, λ h. h) }
        | inr none ↦ absurd (some none)
      ]

      -- a way goes on along a link to another index
      pub way_more : (start here : ℕ) → IsOnWay start here → (slice_index links here ≡ here → ⊥)
          → IsOnWay start (slice_index links here) × (depth_at m side (slice_index links here) < depth_at m side here)
      way_more start here way moves =
          let l = link_at here way.at way.point way.index_is in
          let apart : l.to ≡ way.at → ⊥ = λ same. moves (l.index_is ∙ ap (λ (r : Rank). r.index) same ∙ sym way.index_is) in (
            record {
              first = way.first;
              first_point = way.first_point;
              first_is = way.first_is;
              at = l.to;
              point = l.onward.point;
              index_is = l.index_is;
              same_root = λ r. (λ h. (l.onward.same_root r).0 ((way.same_root r).0 h), λ h. (way.same_root r).1 ((l.onward.same_root r).1 h));
            },
            onward-falls m side way.at l.to here (slice_index links here) whole way.point l.onward way.index_is l.index_is apart,
          )

      -- a way ends where a link stays
      pub way_end : (start here : ℕ) → IsOnWay start here → slice_index links here ≡ here → IsRootAt m side start here
      way_end start here way stays =
          let l = link_at here way.at way.point way.index_is in
          let same : l.to ≡ way.at = same_index m l.to way.at l.onward.point way.point (sym l.index_is ∙ stays ∙ way.index_is) in
          record {
            at = way.first;
            point = way.first_point;
            index_is = way.first_is;
            to = way.at;
            is_root = (way.same_root way.at).1 (root-pit m side way.at (l.onward.stays.0 same));
            root_is = way.index_is;
          }
