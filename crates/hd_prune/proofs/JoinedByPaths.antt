-- Points of a map that are joined by paths: the levels are the tops of paths, and nearest saddles by
-- levels are nearest saddles by paths.
use Rattle.std.proofs.Common.{◌≡◌, ◌≢◌, ℕ, ◌<◌, ◌⊎◌, Bool, List, refl, sym, subst}
use Rattle.std.specs.Prelude.{Contains}
use Rattle.hd_map.specs.declared.types.Rank.{Rank}
use Rattle.hd_map.specs.declared.types.SideName.{SideName}
use Rattle.hd_map.specs.Map.{Map}
use Rattle.hd_map.specs.NearestSaddle.{local_height, IsNearestSaddle as IsNearestOfPaths}
use Rattle.hd_map.specs.Order.{IsNotAbove}
use Rattle.hd_map.specs.Pruning.{IsSmallest as IsSmallestOfPaths}
use Rattle.hd_map.specs.Rank.{below_by, IsPoint, Near}
use Rattle.hd_map.specs.Saddle.{IsSaddle as IsTopOfPaths}
use Rattle.hd_map.specs.SideLaws.{below_by-order}
use Rattle.hd_map.proofs.Levels.{Reach, PointStep, here, step, reach-trans, reach-sym, reach-higher, points-both}
use Rattle.hd_map.proofs.Saddles.{near-sym, level-from_saddle, saddle-from_level}
use Rattle.hd_prune.proofs.Levels.{IsSaddle, IsNearestSaddle}
use Rattle.hd_prune.proofs.Prunable.{IsSmallest}

module _ (m : Map) (side : SideName) where
  -- a path of points, none above t
  abbrev pub JoinedBy : Rank → Rank → Rank → Type 0
  JoinedBy t a b = Reach (PointStep (Near m) (below_by side) t) a b

  first_step : (t : Rank) {x y : Rank} → JoinedBy t x y → y ≢ x → IsNotAbove (below_by side) x t
  first_step t here d = absurd (d refl)
  first_step t (step s r) d = s.1

  -- a point that is joined to another is not above the level
  pub not_above_level : (t a b : Rank) → b ≢ a → JoinedBy t a b → IsNotAbove (below_by side) a t
  not_above_level t a b ne j = first_step t j ne

  -- the saddle by paths and the saddle by levels are one
  pub by_levels : (a b s : Rank) → b ≢ a → IsTopOfPaths m side a b s → IsSaddle (below_by side) JoinedBy a b s
  by_levels a b s ne h =
      let l = level-from_saddle m side a b s h in
      record { joined = l.joined; least = λ t j. l.least t (not_above_level t a b ne j) j }

  pub by_paths : (a b s : Rank) → IsPoint m a → b ≢ a → IsSaddle (below_by side) JoinedBy a b s → IsTopOfPaths m side a b s
  by_paths a b s point ne h = saddle-from_level m side a b s point (record {
    from_low = not_above_level s a b ne h.joined;
    joined = h.joined;
    least = λ t n j. h.least t j;
  })

  pub joined_both : (t a b : Rank) → JoinedBy t a b → JoinedBy t b a
  joined_both t a b j = reach-sym (PointStep (Near m) (below_by side) t) (points-both (Near m) (below_by side) (below_by-order side) (near-sym m) t) j

  pub joined_along : (t a b c : Rank) → JoinedBy t a b → JoinedBy t b c → JoinedBy t a c
  joined_along t a b c i j = reach-trans (PointStep (Near m) (below_by side) t) i j

  pub joined_higher : (s t a b : Rank) → IsNotAbove (below_by side) s t → JoinedBy s a b → JoinedBy t a b
  joined_higher s t a b h j = reach-higher (Near m) (below_by side) (below_by-order side) s t h j

  module _ (kept : List Rank) (points : (q : Rank) → Contains kept q → IsPoint m q) where
    -- the nearest saddle by levels and that by paths are one
    pub nearest_by_paths : (p s : Rank) → IsPoint m p → IsNearestSaddle (below_by side) JoinedBy kept p s → IsNearestOfPaths m side kept p s
    nearest_by_paths p s point n = record {
      reached = (n.reached.0, n.reached.1, n.reached.2, by_paths p n.reached.0 s point n.reached.2 n.reached.3);
      least = λ q u at ne h. n.least q u at ne (by_levels p q u ne h);
    }

    pub nearest_by_levels : (p s : Rank) → IsPoint m p → IsNearestOfPaths m side kept p s → IsNearestSaddle (below_by side) JoinedBy kept p s
    nearest_by_levels p s point n = record {
      reached = (n.reached.0, n.reached.1, n.reached.2, by_levels p n.reached.0 s n.reached.2 n.reached.3);
      least = λ q u at ne h. n.least q u at ne (by_paths p q u point ne h);
    }

    -- so is the pit of smallest local height, for a local height that agrees at nearest saddles
    module _ (local : Rank → Rank → ℕ) (goes : ℕ → Bool) (agree : (p s : Rank) → Contains kept p → IsNearestOfPaths m side kept p s → local p s ≡ local_height p s) where
      pub smallest_by_paths : (p s : Rank) → IsSmallest (below_by side) JoinedBy local goes kept p s → IsSmallestOfPaths m side kept p s
      smallest_by_paths p s h =
          let near = nearest_by_paths p s (points p h.is_kept) h.nearest in
          record {
            is_kept = h.is_kept;
            nearest = near;
            first = λ q u at n.
                subst (λ x. (x < local_height q u) ⊎ ((x ≡ local_height q u) × IsNotAbove (below_by side) q p)) (agree p s h.is_kept near)
                (subst (λ y. (local p s < y) ⊎ ((local p s ≡ y) × IsNotAbove (below_by side) q p)) (agree q u at n) (h.first q u at (nearest_by_levels q u (points q at) n)));
          }

      pub smallest_by_levels : (p s : Rank) → IsSmallestOfPaths m side kept p s → IsSmallest (below_by side) JoinedBy local goes kept p s
      smallest_by_levels p s h = record {
        is_kept = h.is_kept;
        nearest = nearest_by_levels p s (points p h.is_kept) h.nearest;
        first = λ q u at k.
            let n = nearest_by_paths q u (points q at) k in
            subst (λ x. (x < local q u) ⊎ ((x ≡ local q u) × IsNotAbove (below_by side) q p)) (sym (agree p s h.is_kept h.nearest))
            (subst (λ y. (local_height p s < y) ⊎ ((local_height p s ≡ y) × IsNotAbove (below_by side) q p)) (sym (agree q u at n)) (h.first q u at n));
      }
