-- The least and the greatest height of the edge points among some points.
use Rattle.std.proofs.Common.{◌≡◌, ◌∙◌, ℕ, ℤ, true, false, List, Option, Some, None, refl, sym, ap, subst}
use Rattle.std.specs.Prelude.{Contains, if◌then◌else◌}
use Rattle.hd_map.specs.declared.types.Pos.{Pos}
use Rattle.hd_map.specs.declared.types.Rank.{Rank}
use Rattle.hd_map.specs.EdgePoint.{IsEdge}
use Rattle.hd_map.specs.HeightRange.{range_of}
use Rattle.hd_map.specs.Map.{Map, Present, cell_at, height_at, mask_at, position_at}
use Rattle.hd_map.specs.Rank.{IsPoint, rank}
use Rattle.hd_map.specs.Sums.{EdgeMember, GreatestIs, LeastIs}
use Rattle.hd_map.proofs.Points.{position_at-of, shown_of}
use Rattle.hd_survey.specs.Edges.{edge_height, edge_heights, is_edge}
use Rattle.hd_survey.proofs.EdgePoints.{tested-edge, tested-inner}
use Rattle.hd_survey.proofs.Given.{Contains-given, given-Contains}
use Rattle.hd_survey.proofs.HeightRanges.{greatest_end, greatest-range, least_end, least-range}

-- the height of a position, where it is that of an edge point
height-given : (m : Map) (p : Pos) (h : ℤ) → Present m p → edge_height m p ≡ Some h → IsEdge m (rank m p) × (h ≡ (rank m p).height)
height-given m p h here e = elim (is_edge m p) as (λ b. is_edge m p ≡ b → (if b then height_at m p else None) ≡ Some h → IsEdge m (rank m p) × (h ≡ (rank m p).height)) [
  | true ↦ λ is k. (tested-edge m p here is, one h _ (sym k ∙ shown_of (cell_at m p) (mask_at m p) here.measured here.shown))
  | false ↦ λ is k. absurd (cc k)
] refl e
  where
    one : (a b : ℤ) → ◌≡◌ {A = Option ℤ} (Some a) (Some b) → a ≡ b
    one a b e = cc

given-height : (m : Map) (p : Pos) → Present m p → IsEdge m (rank m p) → edge_height m p ≡ Some (rank m p).height
given-height m p here edge = elim (is_edge m p) as (λ b. is_edge m p ≡ b → (if b then height_at m p else None) ≡ Some (rank m p).height) [
  | true ↦ λ is. shown_of (cell_at m p) (mask_at m p) here.measured here.shown
  | false ↦ λ is. absurd (tested-inner m p here is edge)
] refl

-- some points, as members of a set and by their indexes
pub record AreMembers (m : Map) (Member : Rank → Type 0) (members : List ℕ) : Type 0 where
  pub each : (k : ℕ) → Contains members k → Present m (position_at m.size k) × Member (rank m (position_at m.size k))
  pub all : (r : Rank) → Member r → IsPoint m r × Contains members r.index

module _ (m : Map) (Member : Rank → Type 0) (members : List ℕ) (are : AreMembers m Member members) where
  abbrev heights : List ℤ
  heights = edge_heights m members

  abbrev Edges : Rank → Type 0
  Edges = EdgeMember Member (IsEdge m)

  -- such a height is that of an edge point among them
  height-member : (h : ℤ) → Contains heights h → (r : Rank) × Edges r × (h ≡ r.height)
  height-member h at =
      let from = Contains-given (λ k. edge_height m (position_at m.size k)) members h at in
      let point = are.each from.0 from.1 in
      let given = height-given m (position_at m.size from.0) h point.0 from.2 in
      (rank m (position_at m.size from.0), (point.1, given.0), given.1)

  member-height : (r : Rank) → Edges r → Contains heights r.height
  member-height r (member, edge) =
      let found = are.all r member in
      let point : IsPoint m r = found.0 in
      let p : Pos = point.at in
      let place : position_at m.size r.index ≡ p = ap (position_at m.size) (ap (λ (x : Rank). x.index) point.rank_is) ∙ position_at-of m.size p point.present.in_grid in
      given-Contains (λ k. edge_height m (position_at m.size k)) members r.index r.height found.1
      (ap (edge_height m) place ∙ given-height m p point.present (subst (IsEdge m) point.rank_is edge) ∙ ap (λ (x : Rank). Some x.height) (sym point.rank_is))

  pub least-edge : LeastIs Edges (least_end (range_of heights))
  least-edge = least-range heights Edges height-member member-height

  pub greatest-edge : GreatestIs Edges (greatest_end (range_of heights))
  greatest-edge = greatest-range heights Edges height-member member-height
