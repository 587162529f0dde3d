-- Where the basins of a tile meet, by the numbers of their nodes.
use Rattle.std.specs.Prelude.{◌≡◌, ◌≢◌, ◌<◌, ◌≤◌, ◌⊎◌, ◌++◌, ◌∷◌, [], ℕ, true, List, length, Option, Some, None, slice_get, slice_set}
use Rattle.hd_map.specs.declared.types.Rank.{Rank}
use Rattle.hd_map.specs.declared.types.SideName.{SideName}
use Rattle.hd_map.specs.Order.{IsNotAbove}
use Rattle.hd_map.specs.Rank.{below_by}
use Rattle.hd_basin.specs.declared.meetings.Meeting.{Meeting}

-- the number is that of the last meeting before a bound whose lesser node is a
abbrev pub IsLast : List Meeting → ℕ → ℕ → Option ℕ → Type 0
IsLast list a bound None = (j : ℕ) (x : Meeting) → j < bound → slice_get list j ≡ Some x → x.a ≢ a
IsLast list a bound (Some h) = (h < bound) × ((x : Meeting) → slice_get list h ≡ Some x → x.a ≡ a)
    × ((j : ℕ) (x : Meeting) → j < bound → slice_get list j ≡ Some x → x.a ≡ a → j ≤ h)

-- each node leads to its last meeting, and each meeting to the one before it
pub record AreChained (lasts : List (Option ℕ)) (list : List Meeting) : Type 0 where
  pub ends : (a : ℕ) (h : Option ℕ) → slice_get lasts a ≡ Some h → IsLast list a (length list) h
  pub each : (i : ℕ) (x : Meeting) → slice_get list i ≡ Some x → IsLast list x.a i x.before

-- no meeting is that of a and b
abbrev pub IsUnknown : ℕ → ℕ → List Meeting → Type 0
IsUnknown a b list = (j : ℕ) (x : Meeting) → slice_get list j ≡ Some x → x.a ≡ a → x.b ≢ b

-- the meeting of this number is that of a and b
pub record IsKnown (a b : ℕ) (list : List Meeting) (number : ℕ) : Type 0 where
  pub meeting : Meeting
  pub at : slice_get list number ≡ Some meeting
  pub lesser : meeting.a ≡ a
  pub greater : meeting.b ≡ b

-- the meeting is that of a and b at this place
pub record IsMeetingAt (a b : ℕ) (w : Rank) (x : Meeting) : Type 0 where
  pub lesser : x.a ≡ a
  pub greater : x.b ≡ b
  pub at : x.at ≡ w

-- a meeting that is known stays, or gives way to a lower place
pub record Lowers (side : SideName) (a b : ℕ) (w : Rank) (old new : List Meeting) : Type 0 where
  pub number : ℕ
  pub was : Meeting
  pub at : slice_get old number ≡ Some was
  pub lesser : was.a ≡ a
  pub greater : was.b ≡ b
  pub is : ((new ≡ old) × IsNotAbove (below_by side) was.at w)
      ⊎ ((x : Meeting) × (new ≡ slice_set old number x) × IsMeetingAt a b w x × (below_by side w was.at ≡ true))

-- a and b meet at w: the meeting is new, or it is known
abbrev pub Notes : SideName → ℕ → ℕ → Rank → List Meeting → List Meeting → Type 0
Notes side a b w old new = (IsUnknown a b old × ((x : Meeting) × (new ≡ old ++ x ∷ []) × IsMeetingAt a b w x)) ⊎ Lowers side a b w old new

-- of these meetings of two nodes at a place each two nodes have one, at the lowest of their places
pub record AreKept (side : SideName) (Event : ℕ → ℕ → Rank → Type 0) (list : List Meeting) : Type 0 where
  pub each : (i : ℕ) (x : Meeting) → slice_get list i ≡ Some x → Event x.a x.b x.at
  pub every : (a b : ℕ) (w : Rank) → Event a b w → (i : ℕ) × (x : Meeting) × (slice_get list i ≡ Some x) × (x.a ≡ a) × (x.b ≡ b) × IsNotAbove (below_by side) x.at w
  pub once : (i j : ℕ) (x y : Meeting) → slice_get list i ≡ Some x → slice_get list j ≡ Some y → x.a ≡ y.a → x.b ≡ y.b → i ≡ j
