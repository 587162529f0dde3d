-- The lowest seam of each two basins, by the indexes of their sinks.
use Rattle.std.specs.Prelude.{◌≡◌, ◌⊎◌, ℕ, Bool, true, List, Option, Some, None, Contains, if◌then◌else◌}
use Rattle.std.specs.declared.cmp.Ordering.{Ordering}
use Rattle.std.specs.Ordering.{nat_cmp, ordering_then}
use Rattle.hd_map.specs.declared.types.SideName.{SideName}
use Rattle.hd_map.specs.Order.{IsNotAbove}
use Rattle.hd_map.specs.Rank.{below_by}
use Rattle.hd_basin.specs.declared.part.Seam.{Seam}

-- pairs of indexes, by the first and then by the second
abbrev pub pair_cmp : ℕ × ℕ → ℕ × ℕ → Ordering
pair_cmp x y = ordering_then (nat_cmp x.0 y.0) (nat_cmp x.1 y.1)

abbrev pub key_of : Seam → ℕ × ℕ
key_of s = (s.pass.a.index, s.pass.b.index)

-- whether a seam is lower than what is known
abbrev pub is_lower : SideName → Option Seam → Seam → Bool
is_lower side (Some known) s = below_by side s.pass.at known.pass.at
is_lower side None s = true

-- the lower of what is known and one more seam
abbrev pub lower_of : SideName → Option Seam → Seam → Seam
lower_of side (Some known) s = if below_by side s.pass.at known.pass.at then s else known
lower_of side None s = s

-- under the key of the seam is the lower of what was there and the seam, and under each other one what was there
pub record NotesLower (side : SideName) (old new : ℕ × ℕ → Option Seam) (s : Seam) : Type 0 where
  pub here : new (key_of s) ≡ Some (lower_of side (old (key_of s)) s)
  pub others : (k : ℕ × ℕ) → (k ≡ key_of s → ⊥) → new k ≡ old k

-- a seam that was noted has the key of another one and is not above it
pub record IsCovered (side : SideName) (last : Option Seam) (s : Seam) : Type 0 where
  pub known : Seam
  pub is : last ≡ Some known
  pub key : key_of known ≡ key_of s
  pub low : IsNotAbove (below_by side) known.pass.at s.pass.at

-- the seam is noted, and is the last one, or it is covered by the last one, and all stays
abbrev pub NotesAfter : SideName → (ℕ × ℕ → Option Seam) → (ℕ × ℕ → Option Seam) → Option Seam → Seam → Option Seam → Type 0
NotesAfter side old new last s next =
    (IsCovered side last s × (next ≡ last) × ((k : ℕ × ℕ) → new k ≡ old k)) ⊎ ((next ≡ Some s) × NotesLower side old new s)

-- what was noted last is one of the seams
abbrev pub IsNotedOf : List Seam → Option Seam → Type 0
IsNotedOf all last = (s : Seam) → last ≡ Some s → Contains all s

-- under the key of each of the seams is the lowest of those with that key
pub record HasLowest (side : SideName) (all : List Seam) (table : ℕ × ℕ → Option Seam) : Type 0 where
  pub found : (key : ℕ × ℕ) (s : Seam) → table key ≡ Some s → Contains all s × (key_of s ≡ key)
  pub lowest : (key : ℕ × ℕ) (s u : Seam) → table key ≡ Some s → Contains all u → key_of u ≡ key → IsNotAbove (below_by side) s.pass.at u.pass.at
  pub each : (u : Seam) → Contains all u → (s : Seam) × (table (key_of u) ≡ Some s)
