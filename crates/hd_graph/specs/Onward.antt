-- Links in order, and by which of them the water goes on from what those before have joined.
use Rattle.std.specs.Prelude.{◌≡◌, ◌<◌, ◌≤◌, ◌+◌, ◌⊎◌, ℕ, List, Some, length, slice_get}
use Rattle.hd_map.specs.Reach.{Reach}
use Rattle.hd_map.specs.declared.types.Link.{Link}
use Rattle.hd_graph.specs.Links.{IsBetween}

-- one of the first n links joins a and b
abbrev pub FirstStep : List Link → ℕ → ℕ → ℕ → Type 0
FirstStep links n a b = (k : ℕ) × (l : Link) × (k < n) × (slice_get links k ≡ Some l) × IsBetween l a b

-- the first n links join a and b
abbrev pub AreJoined : List Link → ℕ → ℕ → ℕ → Type 0
AreJoined links n a b = Reach (FirstStep links n) a b

-- p is the place of the first link that leads on from what the first t join with x, and of none where none leads on
pub record IsOnward (links : List Link) (x t p : ℕ) : Type 0 where
  pub later : t ≤ p
  pub whole : (v : ℕ) → AreJoined links p x v → AreJoined links t x v
  pub apart : (l : Link) → slice_get links p ≡ Some l → AreJoined links p l.a l.b → ⊥
  pub leads : (l : Link) → slice_get links p ≡ Some l → AreJoined links t x l.a ⊎ AreJoined links t x l.b

-- part e is what the first t links join with x: first come the lows, each alone, then by link what it joins, where its ends are
-- apart before
abbrev pub IsPart : List Link → ℕ → ℕ → ℕ → ℕ → Type 0
IsPart links count e x t = ((e < count) × (e ≡ x) × (t ≡ 0)) ⊎ ((k : ℕ) × (l : Link) × (slice_get links k ≡ Some l) × (e ≡ count + k) × (x ≡ l.a) × (t ≡ k + 1) × (AreJoined links k l.a l.b → ⊥))

-- by part, the place of the link that leads on from it
pub record AreOnward (links : List Link) (count : ℕ) (onward : List ℕ) : Type 0 where
  pub long : length onward ≡ count + length links
  pub each : (e x t p : ℕ) → IsPart links count e x t → slice_get onward e ≡ Some p → IsOnward links x t p
