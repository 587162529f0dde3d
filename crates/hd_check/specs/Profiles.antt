-- Places of a rising cut, by which the leaks in the profiles round a point are found.
use Rattle.std.specs.Prelude.{◌≡◌, ◌<◌, ◌≤◌, ◌+◌, ◌*◌, ◌-◌, ℕ, List, length, Option, Some, None}
use Rattle.hd_map.specs.declared.types.Pos.{Pos}
use Rattle.hd_map.specs.declared.types.Rank.{Rank}
use Rattle.hd_map.specs.declared.types.SideName.{SideName}
use Rattle.hd_map.specs.declared.types.Size.{Size}
use Rattle.hd_map.specs.Map.{Map, place_of}
use Rattle.hd_map.specs.Rank.{rank}
use Rattle.hd_check.specs.declared.closed.Places.{Places}
use Rattle.hd_check.specs.Rules.{IsLeak, point_of}

-- the points of the cut before the place come before the index
pub record IsBehind (s : Size) (cut : List Pos) (index place : ℕ) : Type 0 where
  pub within : place ≤ length cut
  pub before : (i : ℕ) → i < place → place_of s (point_of cut i) < index

-- and the point at the place does not
pub record IsFirstFrom (s : Size) (cut : List Pos) (index place : ℕ) : Type 0 where
  pub behind : IsBehind s cut index place
  pub reached : place < length cut → index ≤ place_of s (point_of cut place)

-- the index of the position to the left of a point, in the profile so many after the one before its own
abbrev pub left_index : Size → Pos → ℕ → ℕ
left_index s at step = (at.y + step - 1) * s.points + (at.x - 1)

-- of each point from this index on the place is behind the neighbours in that profile
abbrev pub IsPlaceOf : Size → List Pos → ℕ → ℕ → ℕ → Type 0
IsPlaceOf s cut index step place = (at : Pos) → index ≤ place_of s at → 1 ≤ at.y + step → IsBehind s cut (left_index s at step) place

-- and that in each of the three profiles
pub record ArePlaces (s : Size) (cut : List Pos) (index : ℕ) (places : Places) : Type 0 where
  pub above : IsPlaceOf s cut index 0 places.above
  pub beside : IsPlaceOf s cut index 1 places.beside
  pub below : IsPlaceOf s cut index 2 places.below

-- where a point has leaks in that profile, q is the first of them
abbrev pub FirstLeakIn : Map → SideName → Option Pos → List Pos → Pos → ℕ → Option Pos → Type 0
FirstLeakIn m side level cut p step None = (q : Pos) → q.y + 1 ≡ p.y + step → IsLeak m side level cut p q → ⊥
FirstLeakIn m side level cut p step (Some q) = (q.y + 1 ≡ p.y + step) × IsLeak m side level cut p q × ((r : Pos) → r.y + 1 ≡ p.y + step → IsLeak m side level cut p r → q.x ≤ r.x)

-- the rank of the saddle, if there is one
abbrev pub rank_of_level : Map → Option Pos → Option Rank
rank_of_level m None = None
rank_of_level m (Some p) = Some (rank m p)
