-- What kept pits reach below their nearest saddles, added up point by point.
use Rattle.std.specs.Prelude.{◌≡◌, ◌<◌, ◌≤◌, ◌↔◌, ◌+◌, ◌-ℤ◌, ◌*◌, ◌^◌, ℕ, ℤ, pos, Bool, false, nat_eq, unsigned_abs, if◌then◌else◌, List, length, sum_by, slice_get, slice_index_or, Option, Some, None, MatchOption}
use Rattle.std.specs.List.{range_with_len}
use Rattle.hd_num.specs.declared.frac.Frac.{Frac}
use Rattle.hd_num.specs.Frac.{IsFraction}
use Rattle.hd_map.specs.declared.types.Rank.{Rank}
use Rattle.hd_map.specs.declared.types.SideName.{SideName}
use Rattle.hd_map.specs.Map.{Map, cell_count, height_at, position_at}
use Rattle.hd_map.specs.Shown.{IsReachedBelow}
use Rattle.hd_prune.specs.declared.step.Kept.{Kept}

-- the nearest saddle of a kept pit, if there is one
abbrev pub nearest_of : Option Kept → Option Rank
nearest_of None = None
nearest_of (Some k) = k.nearest

-- the kept pit of this number reaches the point x below its nearest saddle
pub record IsReachedBy (m : Map) (side : SideName) (kept : List Kept) (n : ℕ) (x : Rank) : Type 0 where
  pub one : Kept
  pub is_one : slice_get kept n ≡ Some one
  pub saddle : Rank
  pub nearest : one.nearest ≡ Some saddle
  pub below : IsReachedBelow m side (Some saddle) one.pit x

-- by index the number of that of the first kept pits which so reaches the point, and none where none does or no point is present
pub record AreReached (m : Map) (side : SideName) (kept : List Kept) (count : ℕ) (reached : List (Option ℕ)) : Type 0 where
  pub whole : length reached ≡ cell_count m.size
  pub exactly : (k n : ℕ) → slice_index_or reached k None ≡ Some n ↔ ((x : Rank) × (n < count) × (x.index ≡ k) × IsReachedBy m side kept n x)

-- whether this is the number of the pit that reaches a point
abbrev pub is_number : ℕ → Option ℕ → Bool
is_number i None = false
is_number i (Some n) = nat_eq n i

-- the height difference between a saddle and a point, taken positive, where both are
abbrev pub difference : Option Rank → Option ℤ → ℕ
difference None height = 0
difference (Some s) None = 0
difference (Some s) (Some h) = unsigned_abs (s.height -ℤ h)

-- what a point of this height, which the pit of such a number reaches, adds to the volume of the kept pit of number i
abbrev pub added : List Kept → Option ℕ → Option ℤ → ℕ → ℕ
added kept by height i = if is_number i by then difference (nearest_of (slice_get kept i)) height else 0

-- the volume of each kept pit with one more point
pub record AddsPoint (kept : List Kept) (by : Option ℕ) (height : Option ℤ) (old new : List ℕ) : Type 0 where
  pub whole : length new ≡ length old
  pub each : (i : ℕ) → i < length old → slice_index_or new i 0 ≡ slice_index_or old i 0 + added kept by height i
  pub small : (bound : ℕ) → ((i : ℕ) → i < length old → slice_index_or old i 0 ≤ bound) → (i : ℕ) → i < length old → slice_index_or new i 0 ≤ bound + 2 ^ 64

-- the volumes of the points with an index below n
pub record AreVolumes (m : Map) (kept : List Kept) (reached : List (Option ℕ)) (n : ℕ) (volumes : List ℕ) : Type 0 where
  pub whole : length volumes ≡ length kept
  pub each : (i : ℕ) → i < length kept → slice_index_or volumes i 0 ≡ sum_by (λ k. added kept (slice_index_or reached k None) (height_at m (position_at m.size k)) i) (range_with_len 0 n)
  pub small : (i : ℕ) → i < length kept → slice_index_or volumes i 0 ≤ n * 2 ^ 64

-- the value is this volume where there is a nearest saddle, and none elsewhere
abbrev pub IsValueOf : Option Rank → ℕ → Option Frac → Type 0
IsValueOf nearest volume value = MatchOption value (nearest ≡ None) (λ f. (s : Rank) × (nearest ≡ Some s) × IsFraction (pos volume) 1 f.num f.den)

-- the values of the first n kept pits
pub record AreValues (kept : List Kept) (volumes : List ℕ) (n : ℕ) (values : List (Option Frac)) : Type 0 where
  pub whole : length values ≡ n
  pub each : (i : ℕ) (k : Kept) (value : Option Frac) → i < n → slice_get kept i ≡ Some k → slice_get values i ≡ Some value → IsValueOf k.nearest (slice_index_or volumes i 0) value
