-- The places of the sinks of a tile.
use Rattle.std.proofs.Common.{◌≡◌, ◌<◌, ◌≤◌, ◌+◌, ◌*◌, ◌/◌, ◌%◌, ◌-◌, ℕ, inl, inr, ◌∙◌, ap, arith}
use Rattle.std.proofs.lemmas.Nat.{div-add-mod'}
use Rattle.hd_map.specs.declared.types.SideName.{SideName}
use Rattle.hd_map.specs.Map.{Map, Present}
use Rattle.hd_map.proofs.Points.{present_or_not}
use Rattle.hd_basin.specs.declared.frame.Frame.{Frame}
use Rattle.hd_basin.specs.Parts.{place_in_tile}
use Rattle.hd_basin.specs.Sinks.{IsArea, IsSunk, at_place, no_node}
use Rattle.hd_basin.proofs.Areas.{area-grid, area-place}
use Rattle.hd_basin.proofs.Frames.{step-in_frame}

-- the place of a sink in the lists of its tile is that in the rectangle
pub sink-home : (m : Map) (t tile : ℕ) (f : Frame) → 1 ≤ t → IsArea m.size t tile f → (k : ℕ) → k < f.columns * f.rows → place_in_tile m.size t (at_place f k) ≡ k
sink-home m t tile f some area k below =
    let place = area-place m.size t tile f some area (at_place f k) (step-in_frame f k below) in
    let row : f.top + k / f.columns - f.top ≡ k / f.columns = omega arith in
    let column : f.left + k % f.columns - f.left ≡ k % f.columns = omega arith in
    place ∙ ap (λ (n : ℕ). n * f.columns + (f.left + k % f.columns - f.left)) row ∙ ap (λ (n : ℕ). k / f.columns * f.columns + n) column ∙ div-add-mod' k f.columns

-- there is no sink where no point is present
pub sunk-absent : (m : Map) (side : SideName) (t : ℕ) (f : Frame) → f.columns * f.rows ≤ no_node → (k place : ℕ) → IsSunk m side t f k place → place ≡ no_node → Present m (at_place f k) → ⊥
sunk-absent m side t f few k place is none here = (let below = is.inside here in omega (arith, below, none, few))

-- and one where there is a point
pub sunk-here : (m : Map) (side : SideName) (t tile : ℕ) (f : Frame) → 1 ≤ t → IsArea m.size t tile f → (k : ℕ) → k < f.columns * f.rows → (place : ℕ) → IsSunk m side t f k place
    → (place ≡ no_node → ⊥) → Present m (at_place f k)
sunk-here m side t tile f some area k below place is there = elim (present_or_not m (at_place f k) (area-grid m.size t tile f some area (at_place f k) (step-in_frame f k below))) [
  | inl here ↦ here
  | inr absent ↦ absurd (there (is.none absent))
]
