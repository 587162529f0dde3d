-- The sinks of points: one for each, reached without rising, on the way to the root.
use Rattle.std.proofs.Common.{◌≡◌, ◌≢◌, ℕ, List, [], ◌∷◌, refl, sym, ◌∙◌, ap, subst}
use Rattle.std.specs.Prelude.{◌↔◌}
use Rattle.hd_map.specs.declared.types.Pos.{Pos}
use Rattle.hd_map.specs.declared.types.Rank.{Rank}
use Rattle.hd_map.specs.declared.types.SideName.{SideName}
use Rattle.hd_map.specs.Map.{Map, Present}
use Rattle.hd_map.specs.Order.{IsNotAbove}
use Rattle.hd_map.specs.Rank.{Near, below_by, rank}
use Rattle.hd_map.specs.Region.{IsNext, IsPit, IsRoot}
use Rattle.hd_map.specs.SideLaws.{below_by-order}
use Rattle.hd_map.proofs.Order.{below-not_above, not_above-trans, not_above-refl}
use Rattle.hd_map.proofs.Points.{point_at}
use Rattle.hd_map.proofs.Nexts.{next-unique, root-step, root-next}
use Rattle.hd_tiles.specs.Tile.{tile_of}
use Rattle.hd_basin.specs.Basin.{IsSink, AreNextsInside, IsSinkOf, tile_at}
use Rattle.hd_map.proofs.Levels.{Reach, here, step, PointStep}
use Rattle.hd_basin.proofs.Areas.{tile-of_point}

-- a sink lies in the tile of the points of its basin
pub nexts-tile : (m : Map) (side : SideName) (t : ℕ) (p s : Rank) (path : List Rank) → AreNextsInside m side t p path s → tile_at m.size t s ≡ tile_at m.size t p
nexts-tile m side t p s [] nexts = ap (tile_at m.size t) (sym nexts.0)
nexts-tile m side t p s (q ∷ path) nexts = nexts-tile m side t q s path nexts.2 ∙ nexts.1

pub sink-tile : (m : Map) (side : SideName) (t : ℕ) (p s : Rank) → IsSinkOf m side t p s → tile_at m.size t s ≡ tile_at m.size t p
sink-tile m side t p s of = nexts-tile m side t p s of.0 of.1

module _ (m : Map) (side : SideName) (t : ℕ) where
  -- a point has one sink at most
  nexts-unique : (p r s : Rank) (xs ys : List Rank) → AreNextsInside m side t p xs r → AreNextsInside m side t p ys s → r ≡ s
  nexts-unique p r s [] [] one other = sym one.0 ∙ other.0
  nexts-unique p r s [] (y ∷ ys) one other = absurd (one.1.leaves y other.0 other.1)
  nexts-unique p r s (x ∷ xs) [] one other = absurd (other.1.leaves x one.0 one.1)
  nexts-unique p r s (x ∷ xs) (y ∷ ys) one other =
      let e : y ≡ x = next-unique m side p y x other.0 one.0 in
      nexts-unique x r s xs ys one.2 (subst (λ (z : Rank). AreNextsInside m side t z ys s) e other.2)

  pub sink-unique : (p r s : Rank) → IsSinkOf m side t p r → IsSinkOf m side t p s → r ≡ s
  sink-unique p r s one other = nexts-unique p r s one.0 other.0 one.1 other.1

  -- a sink is its own
  pub sink-own : (s : Rank) → IsSink m side t s → IsSinkOf m side t s s
  sink-own s sink = ([], (refl, sink))

  -- the sink of a point is a sink
  sink-is_sink-nexts : (p s : Rank) (xs : List Rank) → AreNextsInside m side t p xs s → IsSink m side t s
  sink-is_sink-nexts p s [] nexts = subst (λ (z : Rank). IsSink m side t z) nexts.0 nexts.1
  sink-is_sink-nexts p s (x ∷ xs) nexts = sink-is_sink-nexts x s xs nexts.2

  pub sink-is_sink : (p s : Rank) → IsSinkOf m side t p s → IsSink m side t s
  sink-is_sink p s of = sink-is_sink-nexts p s of.0 of.1

  -- a pit is a sink
  pub pit-sink : (p : Rank) → IsPit m side p → IsSink m side t p
  pit-sink p pit = record { point = pit.point; leaves = λ q next same. pit.alone q next.lower }

  -- a point runs to its sink over points that are not above what it is not above
  nexts-settle : (u p s : Rank) (xs : List Rank) → IsNotAbove (below_by side) p u → AreNextsInside m side t p xs s → Reach (PointStep (Near m) (below_by side) u) p s
  nexts-settle u p s [] h nexts = subst (λ (z : Rank). Reach (PointStep (Near m) (below_by side) u) p z) nexts.0 here
  nexts-settle u p s (x ∷ xs) h nexts =
      let low : IsNotAbove (below_by side) x u = not_above-trans (below_by side) (below_by-order side) x p u (below-not_above (below_by side) (below_by-order side) x p nexts.0.lower.below) h in
      step (nexts.0.lower.near, h, low) (nexts-settle u x s xs low nexts.2)

  pub sink-settles : (u p s : Rank) → IsNotAbove (below_by side) p u → IsSinkOf m side t p s → Reach (PointStep (Near m) (below_by side) u) p s
  sink-settles u p s h of = nexts-settle u p s of.0 h of.1

  -- a sink is not above the points of its basin
  nexts-not_above : (p s : Rank) (xs : List Rank) → AreNextsInside m side t p xs s → IsNotAbove (below_by side) s p
  nexts-not_above p s [] nexts = subst (λ (z : Rank). IsNotAbove (below_by side) z p) nexts.0 (not_above-refl (below_by side) (below_by-order side) p)
  nexts-not_above p s (x ∷ xs) nexts = not_above-trans (below_by side) (below_by-order side) s x p (nexts-not_above x s xs nexts.2)
      (below-not_above (below_by side) (below_by-order side) x p nexts.0.lower.below)

  pub sink-not_above : (p s : Rank) → IsSinkOf m side t p s → IsNotAbove (below_by side) s p
  sink-not_above p s of = nexts-not_above p s of.0 of.1

  -- a point and its sink have one root
  nexts-root : (p s : Rank) (xs : List Rank) → AreNextsInside m side t p xs s → (r : Rank) → IsRoot m side p r ↔ IsRoot m side s r
  nexts-root p s [] nexts r = subst (λ (z : Rank). IsRoot m side p r ↔ IsRoot m side z r) nexts.0 (λ h. h, λ h. h)
  nexts-root p s (x ∷ xs) nexts r =
      let rest = nexts-root x s xs nexts.2 r in
      (λ h. rest.0 (root-next m side p x r nexts.0 h), λ h. root-step m side p x r nexts.0 (rest.1 h))

  pub sink-root : (p s r : Rank) → IsSinkOf m side t p s → IsRoot m side p r ↔ IsRoot m side s r
  sink-root p s r of = nexts-root p s of.0 of.1 r

  -- u is the sink of the next of the sink s
  pub record FlowsInto (s u : Rank) : Type 0 where
    pub next : Rank
    pub is_next : IsNext m side s next
    pub sink : IsSinkOf m side t next u

-- a point whose next is in another tile is a sink
pub sink_by_next : (m : Map) (side : SideName) (t : ℕ) (p q : Pos) → Present m p → Present m q → IsNext m side (rank m p) (rank m q) → tile_of m.size t q ≢ tile_of m.size t p
    → IsSink m side t (rank m p)
sink_by_next m side t p q present there next other = record {
  point = point_at m p present;
  leaves = λ r is same. other (
      sym (tile-of_point m t (rank m q) q there refl) ∙ ap (tile_at m.size t) (next-unique m side (rank m p) (rank m q) r next is) ∙ same ∙ tile-of_point m t (rank m p) p present refl);
}
