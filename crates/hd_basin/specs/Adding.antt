-- A node with one more point.
use Rattle.std.specs.Prelude.{◌≡◌, ◌⊎◌, ◌≤ℤ◌, ◌+◌, ℤ, Bool, true, false, Option, Some, None}
use Rattle.hd_basin.specs.declared.node.Node.{Node}

-- c is the greater of a and b
abbrev pub IsGreater : ℤ → ℤ → ℤ → Type 0
IsGreater a b c = ((c ≡ a) × (b ≤ℤ a)) ⊎ ((c ≡ b) × (a ≤ℤ b))

-- c is the lesser of a and b
abbrev pub IsLesser : ℤ → ℤ → ℤ → Type 0
IsLesser a b c = ((c ≡ a) × (a ≤ℤ b)) ⊎ ((c ≡ b) × (b ≤ℤ a))

-- an extreme of edge points with one more point, which may be an edge point
abbrev pub GoesOn : (ℤ → ℤ → ℤ → Type 0) → Bool → Option ℤ → ℤ → Option ℤ → Type 0
GoesOn Is false old h new = new ≡ old
GoesOn Is true None h new = new ≡ Some h
GoesOn Is true (Some g) h None = ⊥
GoesOn Is true (Some g) h (Some c) = Is g h c

-- the sums with one more point of this height
pub record AddsPoint (h : ℤ) (edge : Bool) (old new : Node) : Type 0 where
  pub low : new.low ≡ old.low
  pub flows : new.flows ≡ old.flows
  pub tile : new.tile ≡ old.tile
  pub points : new.points ≡ old.points + 1
  pub high : IsGreater old.high h new.high
  pub least : IsLesser old.least h new.least
  pub edge_low : GoesOn IsLesser edge old.edge_low h new.edge_low
  pub edge_high : GoesOn IsGreater edge old.edge_high h new.edge_high
