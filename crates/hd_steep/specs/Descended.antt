-- Descents as they are gathered, point by point.
use Rattle.std.specs.Prelude.{◌⊎◌, ◌+◌, ◌-◌, ◌++◌, ℕ, zero, suc, Bool, List, [], ◌∷◌, Contains, slice_index, if◌then◌else◌}
use Rattle.hd_map.specs.declared.types.Pos.{Pos}
use Rattle.hd_map.specs.declared.types.Rank.{Rank}
use Rattle.hd_map.specs.declared.types.SideName.{SideName}
use Rattle.hd_map.specs.Map.{Map, Present}
use Rattle.hd_map.specs.Rank.{rank}
use Rattle.hd_map.specs.Region.{LowerNeighbour}
use Rattle.hd_steep.specs.declared.descent.Descent.{Descent}
use Rattle.hd_steep.specs.declared.rolling.Rows.{Rows}
use Rattle.hd_steep.specs.Descents.{IsDescentFrom, IsReached}
use Rattle.hd_steep.specs.Ring.{is_marked}

-- the descent from an index to another one
abbrev pub descent_to : ℕ → ℕ → Descent
descent_to from to = record { from = from; to = to }

-- the list with the descent from an index to another one, if that is marked
abbrev pub with_descent_if : ℕ → ℕ → Bool → List Descent → List Descent
with_descent_if from to marked old = if marked then old ++ descent_to from to ∷ [] else old

-- with the descents from an index to the marked ones among the first n of others
module _ (from : ℕ) (others : List ℕ) (marks : List Bool) (old : List Descent) where
  abbrev pub with_descents : ℕ → List Descent
  with_descents zero = old
  with_descents (suc n) = with_descent_if from (slice_index others n) (is_marked marks n) (with_descents n)

-- the indexes of the eight places round a column, where they are in the rows
abbrev pub indexes_round : {L : Type 0} → Rows L → ℕ → List ℕ
indexes_round rows x =
    (rows.above.first + x) ∷ (rows.above.first + x + 1) ∷ (rows.level.first + x + 1) ∷ (rows.below.first + x + 1)
    ∷ (rows.below.first + x) ∷ (rows.below.first + x - 1) ∷ (rows.level.first + x - 1) ∷ (rows.above.first + x - 1) ∷ []

-- the list is extended by descents from the chosen points, so that all lower neighbours of these are reached
pub record Descends (m : Map) (side : SideName) (Chosen : Pos → Type 0) (old new : List Descent) : Type 0 where
  pub from : (d : Descent) → Contains new d → Contains old d ⊎ IsDescentFrom m side Chosen d
  pub kept : (d : Descent) → Contains old d → Contains new d
  pub all : (u : Pos) → Chosen u → Present m u → (z : Rank) → LowerNeighbour m side (rank m u) z → IsReached m side new (rank m u) z
