-- Borders with their numbers, and which of them join two regions first.
use Rattle.std.specs.Prelude.{◌≡◌, ◌<◌, ◌≤◌, ◌↔◌, ℕ, Bool, true, false, List, length, slice_get, Some, Contains}
use Rattle.hd_map.specs.declared.types.Rank.{Rank}
use Rattle.hd_map.specs.Reach.{Reach}
use Rattle.hd_graph.specs.Classes.{AreOneClass}
use Rattle.hd_steep.specs.declared.border.Border.{Border}
use Rattle.hd_lines.specs.declared.saddles.NumberedBorder.{NumberedBorder}
use Rattle.hd_lines.specs.FirstJoins.{AreEnds}

-- a border with its number
abbrev pub numbered_border : ℕ → Border → NumberedBorder
numbered_border number l = record { number = number; a = l.a; b = l.b; at = l.pass }

-- the first n borders with their numbers
pub record AreNumberedBorders (borders : List Border) (n : ℕ) (numbered : List NumberedBorder) : Type 0 where
  pub each : (x : NumberedBorder) → Contains numbered x → (l : Border) × (slice_get borders x.number ≡ Some l) × (x ≡ numbered_border x.number l)
  pub all : (k : ℕ) (l : Border) → k < n → slice_get borders k ≡ Some l → Contains numbered (numbered_border k l)

-- whether the pass of one is below that of another
abbrev pub is_lower : (Rank → Rank → Bool) → NumberedBorder → NumberedBorder → Bool
is_lower below x y = below x.at y.at

-- both places are less than n
abbrev pub HasEnds : ℕ → NumberedBorder → Type 0
HasEnds n x = (x.a < n) × (x.b < n)

-- the passes of the first n are below the level
abbrev pub AreLower : (Rank → Rank → Bool) → List NumberedBorder → ℕ → Rank → Type 0
AreLower below numbered n level = (k : ℕ) (x : NumberedBorder) → k < n → slice_get numbered k ≡ Some x → below x.at level ≡ true

-- and no other
pub record BordersSplitAt (below : Rank → Rank → Bool) (numbered : List NumberedBorder) (n : ℕ) (level : Rank) : Type 0 where
  pub lower : AreLower below numbered n level
  pub not_lower : (k : ℕ) (x : NumberedBorder) → n ≤ k → slice_get numbered k ≡ Some x → below x.at level ≡ false

-- one of the first n joins two places
abbrev pub FirstStep : List NumberedBorder → ℕ → ℕ → ℕ → Type 0
FirstStep numbered n x y = (k : ℕ) × (c : NumberedBorder) × (k < n) × (slice_get numbered k ≡ Some c) × AreEnds c.a c.b x y

-- the classes are what the first n join
abbrev pub AreJoinedTo : List NumberedBorder → ℕ → List ℕ → Type 0
AreJoinedTo numbered n parents = (x y : ℕ) → AreOneClass parents x y ↔ Reach (FirstStep numbered n) x y

-- one whose pass is below the level joins two places
abbrev pub LowerNumberedStep : (Rank → Rank → Bool) → List NumberedBorder → Rank → ℕ → ℕ → Type 0
LowerNumberedStep below numbered level x y = (c : NumberedBorder) × Contains numbered c × AreEnds c.a c.b x y × (below c.at level ≡ true)

-- whether those whose passes are lower leave the two places of one apart
abbrev pub IsFirstOf : (Rank → Rank → Bool) → List NumberedBorder → NumberedBorder → Bool → Type 0
IsFirstOf below numbered x first = (first ≡ true) ↔ (Reach (LowerNumberedStep below numbered x.at) x.a x.b → ⊥)

-- the same by number, of the first n
pub record AreMarked (below : Rank → Rank → Bool) (numbered : List NumberedBorder) (numbers n : ℕ) (firsts : List Bool) : Type 0 where
  pub whole : length firsts ≡ numbers
  pub each : (k : ℕ) (x : NumberedBorder) (first : Bool) → k < n → slice_get numbered k ≡ Some x → slice_get firsts x.number ≡ Some first → IsFirstOf below numbered x first
