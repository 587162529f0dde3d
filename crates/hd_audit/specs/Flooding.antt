-- A flood from the kept pits: the lines so far, the points that are listed or wait, and those that wait.
use Rattle.std.specs.Prelude.{◌≡◌, ◌<◌, ◌≤◌, ◌+◌, ◌⊎◌, ◌++◌, ℕ, ℤ, Bool, true, false, List, ◌∷◌, length, slice_index_or, slice_set, Option, Some, None, Contains, if◌then◌else◌, nat_eq}
use Rattle.std.specs.BinaryHeap.{IsHeap}
use Rattle.std.specs.List.{sum_by}
use Rattle.std.specs.List.Sorted.{IsPermutation}
use Rattle.hd_map.specs.declared.types.Pos.{Pos}
use Rattle.hd_map.specs.declared.types.Rank.{Rank}
use Rattle.hd_map.specs.declared.types.SideName.{SideName}
use Rattle.hd_map.specs.Map.{Map, Present, cell_count, place_of}
use Rattle.hd_map.specs.Neighbour.{AreBesideUnder, Neighbour}
use Rattle.hd_map.specs.Order.{IsNotAbove}
use Rattle.hd_map.specs.Rank.{IsPoint, rank, below_by}
use Rattle.hd_num.specs.Percent.{is_percent_less}
use Rattle.hd_prune.specs.declared.step.Kept.{Kept}
use Rattle.hd_audit.specs.declared.types.AuditLine.{AuditLine}
use Rattle.hd_audit.specs.declared.waiting.Waiting.{Waiting}
use Rattle.hd_audit.specs.Lines.{line_at, point_at, rank_at}
use Rattle.hd_audit.specs.LowestFirst.{lowest_first}
use Rattle.hd_audit.specs.Rules.{rise_over}

-- the rank of a waiting point
abbrev pub rank_of_waiting : {S : Type 0} → Waiting S → Rank
rank_of_waiting w = record { height = w.height; index = w.index }

-- the heap is in order, the lowest first
abbrev pub IsLowestFirst : {S : Type 0} → SideName → List (Waiting S) → Type 0
IsLowestFirst {S} side heap = IsHeap (λ (x : Waiting S) (y : Waiting S). lowest_first (below_by side) (rank_of_waiting x) (rank_of_waiting y)) heap

-- whether the point of an index is listed or waits
abbrev pub seen_at : List Bool → ℕ → Bool
seen_at seen i = slice_index_or seen i false

-- one for what is not seen
abbrev pub unseen : Bool → ℕ
unseen seen = if seen then 0 else 1

-- one for what waits with this index
abbrev pub waits_at : {S : Type 0} → ℕ → Waiting S → ℕ
waits_at i w = if nat_eq w.index i then 1 else 0

module _ {S : Type 0} (m : Map) (lines : List AuditLine) where
  -- a point that is not listed and whose neighbour that was listed first has the line at a place
  pub record IsWaiting (w : Waiting S) : Type 0 where
    pub point : Pos
    pub rank_is : rank_of_waiting w ≡ rank m point
    pub unlisted : (k : ℕ) → k < length lines → (line_at lines k).index ≡ w.index → ⊥
    pub before : w.from < length lines
    pub neighbour : Neighbour m point (point_at m lines w.from)
    pub first : (k : ℕ) → k < w.from → Neighbour m point (point_at m lines k) → ⊥

  -- seen are the points that are listed and those that wait, each of these once, and the neighbours of the first of
  -- the listed points
  pub record IsFlooding (seen : List Bool) (heap : List (Waiting S)) (done : ℕ) : Type 0 where
    pub whole : length seen ≡ cell_count m.size
    pub room : length lines + (length heap + sum_by unseen seen) ≡ cell_count m.size
    pub listed : (k : ℕ) → k < length lines → seen_at seen (line_at lines k).index ≡ true
    pub found : (i : ℕ) → seen_at seen i ≡ true → ((k : ℕ) × (k < length lines) × ((line_at lines k).index ≡ i)) ⊎ ((w : Waiting S) × Contains heap w × (w.index ≡ i))
    pub waiting : (w : Waiting S) → Contains heap w → IsWaiting w
    pub once : (i : ℕ) → sum_by (waits_at i) heap ≤ 1
    pub waits_seen : (w : Waiting S) → Contains heap w → seen_at seen w.index ≡ true
    pub closed : (k : ℕ) → k < done → (q : Pos) → Neighbour m (point_at m lines k) q → seen_at seen (place_of m.size q) ≡ true

-- a point that waits behind the line at a place is put into the heap
pub record Adds {S : Type 0} (m : Map) (at : Pos) (from : ℕ) (old new : List (Waiting S)) : Type 0 where
  pub added : Waiting S
  pub rank_is : rank_of_waiting added ≡ rank m at
  pub from_is : added.from ≡ from
  pub moved : IsPermutation (added ∷ old) new

-- whether a point is below the level
abbrev pub is_under : (Rank → Rank → Bool) → Option Rank → Rank → Bool
is_under below None x = false
is_under below (Some level) x = below x level

-- the point is above the level
abbrev pub IsOver : (Rank → Rank → Bool) → Option Rank → Rank → Type 0
IsOver below None x = Unit {0}
IsOver below (Some level) x = below level x ≡ true

-- the place that is noted for a point that waits above the level
abbrev pub ahead_at : List (Option ℕ) → ℕ → Option ℕ
ahead_at ahead i = slice_index_or ahead i None

module _ {S : Type 0} (m : Map) (side : SideName) (lines : List AuditLine) (level : Option Rank) where
  -- of the points that wait, those below the level are in the heap, and the others, all above it, are noted by index
  pub record IsFront (seen : List Bool) (ahead : List (Option ℕ)) (low : List (Waiting S)) (done : ℕ) : Type 0 where
    pub high : List (Waiting S)
    pub flooding : IsFlooding m lines seen (low ++ high) done
    pub whole : length ahead ≡ cell_count m.size
    pub noted : (w : Waiting S) → Contains high w → ahead_at ahead w.index ≡ Some w.from
    pub only : (k p : ℕ) → ahead_at ahead k ≡ Some p → (w : Waiting S) × Contains high w × (w.index ≡ k) × (w.from ≡ p)
    pub under : (w : Waiting S) → Contains low w → is_under (below_by side) level (rank_of_waiting w) ≡ true
    pub over : (w : Waiting S) → Contains high w → IsOver (below_by side) level (rank_of_waiting w)
    pub level_seen : (l : Rank) → level ≡ Some l → seen_at seen l.index ≡ true

  -- the same on the way through the neighbours of the point of a line: of these some are done
  pub record IsSpreading (seen : List Bool) (ahead : List (Option ℕ)) (low : List (Waiting S)) (from : ℕ) (near : List Pos) : Type 0 where
    pub front : IsFront seen ahead low from
    pub all_seen : (q : Pos) → Contains near q → seen_at seen (place_of m.size q) ≡ true

-- a point that is seen is left; another is seen, and waits in the heap where it is below the level, else it is noted
abbrev pub Offers : {S : Type 0} → Map → SideName → Pos → ℕ → Option Rank → List Bool → List (Option ℕ) → List (Waiting S) → List Bool → List (Option ℕ) → List (Waiting S) → Type 0
Offers m side at from level seen ahead low seen' ahead' low' = ((seen_at seen (place_of m.size at) ≡ true) × (seen' ≡ seen) × (ahead' ≡ ahead) × (low' ≡ low))
    ⊎ ((seen_at seen (place_of m.size at) ≡ false) × (seen' ≡ slice_set seen (place_of m.size at) true)
    × (((is_under (below_by side) level (rank m at) ≡ true) × (ahead' ≡ ahead) × Adds m at from low low')
    ⊎ ((is_under (below_by side) level (rank m at) ≡ false) × (ahead' ≡ slice_set ahead (place_of m.size at) (Some from)) × (low' ≡ low))))

-- so a position is offered, if it is present; else all stays
abbrev pub OffersIfPresent : {S : Type 0} → Map → SideName → Pos → ℕ → Option Rank → List Bool → List (Option ℕ) → List (Waiting S) → List Bool → List (Option ℕ) → List (Waiting S) → Type 0
OffersIfPresent m side at from level seen ahead low seen' ahead' low' = (Present m at × Offers m side at from level seen ahead low seen' ahead' low')
    ⊎ ((Present m at → ⊥) × (seen' ≡ seen) × (ahead' ≡ ahead) × (low' ≡ low))

-- so the position at a step from a point is offered, if it is a neighbour; else all stays
abbrev pub OffersAt : {S : Type 0} → Map → SideName → Pos → ℕ → ℕ → ℕ → Option Rank → List Bool → List (Option ℕ) → List (Waiting S) → List Bool → List (Option ℕ) → List (Waiting S) → Type 0
OffersAt m side at x y from level seen ahead low seen' ahead' low' = ((q : Pos) × (q.x + 1 ≡ at.x + x) × (q.y + 1 ≡ at.y + y) × Present m q × AreBesideUnder m.adjacency at q × Offers m side q from level seen ahead low seen' ahead' low')
    ⊎ (((q : Pos) → q.x + 1 ≡ at.x + x → q.y + 1 ≡ at.y + y → Present m q → AreBesideUnder m.adjacency at q → ⊥) × (seen' ≡ seen) × (ahead' ≡ ahead) × (low' ≡ low))

-- a front goes on by the neighbours of a position, which is that of the point of the line at a place
abbrev pub SpreadsRound : {S : Type 0} → Map → SideName → Pos → ℕ → Option Rank → List Bool → List (Option ℕ) → List (Waiting S) → List Bool → List (Option ℕ) → List (Waiting S) → Type 0
SpreadsRound m side at from level seen ahead low seen' ahead' low' = (lines : List AuditLine) → IsFront m side lines level seen ahead low from → from < length lines → point_at m lines from ≡ at
    → IsFront m side lines level seen' ahead' low' (from + 1)

-- a front goes on by the neighbours of the point of the line at a place
abbrev pub Spreads : {S : Type 0} → Map → SideName → List AuditLine → ℕ → Option Rank → List Bool → List (Option ℕ) → List (Waiting S) → List Bool → List (Option ℕ) → List (Waiting S) → Type 0
Spreads m side lines from level seen ahead low seen' ahead' low' = IsFront m side lines level seen ahead low from → IsFront m side lines level seen' ahead' low' (from + 1)

-- the same at some level, where none waits below it
pub record IsFrontAt {S : Type 0} (m : Map) (side : SideName) (lines : List AuditLine) (seen : List Bool) (ahead : List (Option ℕ)) (low : List (Waiting S)) : Type 0 where
  pub level : Option Rank
  pub front : IsFront m side lines level seen ahead low (length lines)
  pub empty : length low ≡ 0

-- no point that is noted is below this one
abbrev pub AreNotBelow : Map → SideName → List (Option ℕ) → Rank → Type 0
AreNotBelow m side ahead point = (x : Rank) (p : ℕ) → IsPoint m x → ahead_at ahead x.index ≡ Some p → IsNotAbove (below_by side) point x

-- each point that is noted is above this one
abbrev pub ArePassed : Map → SideName → List (Option ℕ) → Rank → Type 0
ArePassed m side ahead point = (x : Rank) (p : ℕ) → IsPoint m x → ahead_at ahead x.index ≡ Some p → below_by side point x ≡ true

-- the line of a kept pit
abbrev pub kept_line : Kept → AuditLine
kept_line k = record { index = k.pit.index; parent = None; cut = Some k.pit.index }

-- the lines are those of the first n kept pits, and these alone are seen
pub record AreBegun (m : Map) (kept : List Kept) (n : ℕ) (seen : List Bool) (lines : List AuditLine) : Type 0 where
  pub whole : length seen ≡ cell_count m.size
  pub many : length lines ≡ n
  pub room : length lines + sum_by unseen seen ≡ cell_count m.size
  pub are : (k : ℕ) (d : Kept) → k < n → line_at lines k ≡ kept_line (slice_index_or kept k d)
  pub listed : (k : ℕ) → k < length lines → seen_at seen (line_at lines k).index ≡ true
  pub found : (i : ℕ) → seen_at seen i ≡ true → (k : ℕ) × (k < length lines) × ((line_at lines k).index ≡ i)

-- the cut of a point that is reached from one of this cut
abbrev pub next_cut : Map → SideName → ℕ → ℤ → Option ℕ → Rank → Option ℕ
next_cut m side thousandths sz (Some c) x = if is_percent_less (rise_over side (rank_at m c) x) thousandths sz then Some c else None
next_cut m side thousandths sz None x = None

-- the line of a point that is reached from that of a line
abbrev pub next_line : Map → SideName → ℕ → ℤ → AuditLine → Rank → AuditLine
next_line m side thousandths sz parent x = record { index = x.index; parent = Some parent.index; cut = next_cut m side thousandths sz parent.cut x }
