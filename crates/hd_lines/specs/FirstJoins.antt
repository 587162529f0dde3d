-- Which borders join two regions first: those whose two no borders of lower passes join.
use Rattle.std.specs.Prelude.{◌≡◌, ◌⊎◌, ◌↔◌, ℕ, Bool, true, List, length, slice_get, Some, Contains}
use Rattle.hd_map.specs.declared.types.Rank.{Rank}
use Rattle.hd_map.specs.Reach.{Reach}
use Rattle.hd_steep.specs.declared.border.Border.{Border}

-- these are two numbers, in either order
abbrev pub AreEnds : ℕ → ℕ → ℕ → ℕ → Type 0
AreEnds a b x y = ((a ≡ x) × (b ≡ y)) ⊎ ((a ≡ y) × (b ≡ x))

-- a border whose pass is below the level joins two places
abbrev pub LowerStep : (Rank → Rank → Bool) → List Border → Rank → ℕ → ℕ → Type 0
LowerStep below borders level x y = (l : Border) × Contains borders l × AreEnds l.a l.b x y × (below l.pass level ≡ true)

-- whether borders whose passes are lower leave the two places of a border apart
abbrev pub IsFirstJoin : (Rank → Rank → Bool) → List Border → Border → Bool → Type 0
IsFirstJoin below borders l first = (first ≡ true) ↔ (Reach (LowerStep below borders l.pass) l.a l.b → ⊥)

-- the same of all borders
pub record AreFirstJoins (below : Rank → Rank → Bool) (borders : List Border) (firsts : List Bool) : Type 0 where
  pub whole : length firsts ≡ length borders
  pub each : (k : ℕ) (l : Border) (first : Bool) → slice_get borders k ≡ Some l → slice_get firsts k ≡ Some first → IsFirstJoin below borders l first
