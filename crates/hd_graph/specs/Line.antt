-- Flood lines: the lows of a graph in the order in which rising water reaches them.
use Rattle.std.specs.Prelude.{◌≡◌, ◌≢◌, ◌↔◌, ◌+◌, ◌<◌, ◌≤◌, ◌^◌, ℕ, Bool, if◌then◌else◌, List, [], ◌∷◌, Option, Some, None, AllPairs, Contains, length, slice_get, take, drop}
use Rattle.hd_map.specs.declared.types.Pass.{Pass}
use Rattle.hd_map.specs.declared.types.Rank.{Rank}
use Rattle.hd_map.specs.Order.{IsNotAbove}
use Rattle.hd_graph.specs.declared.graph.Low.{Low}
use Rattle.hd_graph.specs.declared.line.Stop.{Stop}
use Rattle.hd_map.specs.Walks.{HasPass}
use Rattle.hd_graph.specs.Walks.{LeastHighestIs}

-- each low stands at one place of the line
abbrev pub EachOnce : List Stop → Type 0
EachOnce line = AllPairs (λ x y. x.low ≢ y.low) line

-- the lows of a line have different indexes, and a u32 counts them
pub record IsLine (line : List Stop) : Type 0 where
  pub different : AllPairs (λ x y. x.low.index ≢ y.low.index) line
  pub few : length line < 2 ^ 32

-- the higher of two rises, and none where one of them is none
abbrev pub higher_rise : (Rank → Rank → Bool) → Option Rank → Option Rank → Option Rank
higher_rise below (Some x) (Some y) = if below x y then Some y else Some x
higher_rise below (Some x) None = None
higher_rise below None b = None

-- the highest rise of these stops, and none where one of them has none
abbrev pub highest_rise : (Rank → Rank → Bool) → List Stop → Option Rank
highest_rise below [] = None
highest_rise below (x ∷ []) = x.rise
highest_rise below (x ∷ y ∷ ys) = higher_rise below x.rise (highest_rise below (y ∷ ys))

-- the highest rise of places i + 1 to j
abbrev pub rise_between : (Rank → Rank → Bool) → List Stop → ℕ → ℕ → Option Rank
rise_between below line i j = highest_rise below (drop (i + 1) (take (j + 1) line))

-- the stops are the lows
abbrev pub AreStopsOf : List Low → List Stop → Type 0
AreStopsOf lows line = (x : Low) → Contains lows x
    ↔ ((s : Stop) × Contains line s × (s.low ≡ x.rank) × (s.pit ≡ x.pit))

-- a Prim order: a rise is a pass to a stop before, and no pass from the stops before to those from here
-- on is below it; so there is no such pass where there is no rise
pub record IsPrimOrder (below : Rank → Rank → Bool) (passes : List Pass) (line : List Stop) : Type 0 where
  pub attaches : (k : ℕ) (x : Stop) (r : Rank) → slice_get line k ≡ Some x → x.rise ≡ Some r
      → (m : ℕ) × (y : Stop) × (m < k) × (slice_get line m ≡ Some y) × HasPass passes y.low x.low r
  pub lowest : (k m l : ℕ) (x y z : Stop) (w : Rank) → m < k → k ≤ l → slice_get line k ≡ Some x
      → slice_get line m ≡ Some y → slice_get line l ≡ Some z → HasPass passes y.low z.low w
      → (r : Rank) × (x.rise ≡ Some r) × IsNotAbove below r w

-- the highest rise between two places is the least highest pass of the walks between their lows
abbrev pub TellsPasses : (Rank → Rank → Bool) → List Pass → List Stop → Type 0
TellsPasses below passes line = (i j : ℕ) (x y : Stop) → i < j → slice_get line i ≡ Some x
    → slice_get line j ≡ Some y → LeastHighestIs below passes x.low y.low (rise_between below line i j)

-- the flood line of the lows and passes: each low once, in a Prim order, which tells the least highest passes
pub record IsFloodLine (below : Rank → Rank → Bool) (lows : List Low) (passes : List Pass) (line : List Stop) : Type 0 where
  pub stops : AreStopsOf lows line
  pub once : EachOnce line
  pub prim : IsPrimOrder below passes line
  pub tells : TellsPasses below passes line
