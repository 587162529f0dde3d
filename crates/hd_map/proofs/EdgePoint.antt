-- Edge points, told by their positions.
use Rattle.std.proofs.Common.{◌≡◌, ◌<◌, ◌+◌, ◌-◌, ◌*◌, ◌/◌, ◌%◌, ℕ, inl, inr, refl, sym, subst, arith}
use Rattle.hd_map.specs.declared.types.Pos.{Pos}
use Rattle.hd_map.specs.EdgePoint.{HasAbsentBeside, IsEdge, OnBorder}
use Rattle.hd_map.specs.Map.{Map, Present}
use Rattle.hd_map.specs.Rank.{rank}
use Rattle.hd_map.proofs.Gather.{same_pos}
use Rattle.hd_map.proofs.Points.{same_point}

-- where all nine are present, no position beside is without a present point
pub none_absent_beside : (m : Map) (p : Pos) → 0 < p.x → 0 < p.y → ((k : ℕ) → k < 9 → Present m (record { x = p.x + k % 3 - 1; y = p.y + k / 3 - 1 })) → HasAbsentBeside m p → ⊥
none_absent_beside m p left top all missing =
    let k : ℕ = 3 * (missing.at.y + 1 - p.y) + (missing.at.x + 1 - p.x) in
    let c = missing.columns in
    let r = missing.rows in
    let below : k < 9 = omega (arith, c.0, c.1, r.0, r.1, left, top) in
    let x : p.x + k % 3 - 1 ≡ missing.at.x = omega (arith, c.0, c.1, r.0, r.1, left, top) in
    let y : p.y + k / 3 - 1 ≡ missing.at.y = omega (arith, c.0, c.1, r.0, r.1, left, top) in
    missing.absent (subst (Present m) (same_pos (record { x = p.x + k % 3 - 1; y = p.y + k / 3 - 1 }) missing.at x y) (all k below))

-- an edge point is told by its position
pub edge-on : (m : Map) (p : Pos) → Present m p → OnBorder m.size p → IsEdge m (rank m p)
edge-on m p here border = record { at = p; present = here; rank_is = refl; open_side = inl border }

pub edge-absent_beside : (m : Map) (p : Pos) → Present m p → HasAbsentBeside m p → IsEdge m (rank m p)
edge-absent_beside m p here missing = record { at = p; present = here; rank_is = refl; open_side = inr missing }

pub no_edge : (m : Map) (p : Pos) → Present m p → (OnBorder m.size p → ⊥) → (HasAbsentBeside m p → ⊥) → IsEdge m (rank m p) → ⊥
no_edge m p here inner closed edge =
    let same : edge.at ≡ p = same_point m edge.at p edge.present here (sym edge.rank_is) in
    elim edge.open_side [
      | inl border ↦ inner (subst (OnBorder m.size) same border)
      | inr missing ↦ closed (subst (HasAbsentBeside m) same missing)
    ]
