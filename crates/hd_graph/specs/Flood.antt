-- How the flood goes on: which lows are done, and what is known of the line so far.
use Rattle.std.specs.Prelude.{◌≡◌, ◌≢◌, ◌<◌, ℕ, Bool, true, false, List, Some, get_or, length, slice_get}
use Rattle.hd_map.specs.declared.types.Pass.{Pass}
use Rattle.hd_map.specs.declared.types.Rank.{Rank}
use Rattle.hd_map.specs.Order.{IsNotAbove}
use Rattle.hd_map.specs.Walks.{HasPass}
use Rattle.hd_graph.specs.declared.graph.Low.{Low}
use Rattle.hd_graph.specs.declared.line.Stop.{Stop}
use Rattle.hd_map.specs.declared.types.Link.{Link}
use Rattle.hd_graph.specs.Onward.{AreJoined}

-- whether the low of this number is done
abbrev pub is_done : List Bool → ℕ → Bool
is_done done v = get_or done v false

-- the stop is for the low of this number
abbrev pub IsStopFor : List Low → ℕ → Stop → Type 0
IsStopFor lows v s = slice_get lows v ≡ Some (record { rank = s.low; pit = s.pit })

-- no links join a low that is done with one that is not
abbrev pub AreWhole : List Link → List Bool → Type 0
AreWhole links done = (n y v : ℕ) → is_done done y ≡ true → is_done done v ≡ false → AreJoined links n y v → ⊥

-- what the first t links join with x is done; and links that join a low that is done with one that is not join it with x
pub record IsReached (links : List Link) (done : List Bool) (x t : ℕ) : Type 0 where
  pub whole : (v : ℕ) → AreJoined links t x v → is_done done v ≡ true
  pub around : (n y v : ℕ) → is_done done y ≡ true → is_done done v ≡ false → AreJoined links n y v → AreJoined links n y x

-- the lows that are done are the stops, in a Prim order as far as it goes
pub record IsLineSoFar (below : Rank → Rank → Bool) (lows : List Low) (passes : List Pass) (done : List Bool) (line : List Stop) : Type 0 where
  pub long : length done ≡ length lows
  pub stops : (v : ℕ) → is_done done v ≡ true → (k : ℕ) × (s : Stop) × (slice_get line k ≡ Some s) × IsStopFor lows v s
  pub lows_done : (k : ℕ) (s : Stop) → slice_get line k ≡ Some s → (v : ℕ) × (is_done done v ≡ true) × IsStopFor lows v s
  pub once : (j k : ℕ) (x y : Stop) → slice_get line j ≡ Some x → slice_get line k ≡ Some y → x.low ≡ y.low → j ≡ k
  pub attaches : (k : ℕ) (x : Stop) (r : Rank) → slice_get line k ≡ Some x → x.rise ≡ Some r
      → (m : ℕ) × (y : Stop) × (m < k) × (slice_get line m ≡ Some y) × HasPass passes y.low x.low r
  pub lowest : (k m : ℕ) (x y : Stop) (v w : Rank) → m < k → slice_get line k ≡ Some x → slice_get line m ≡ Some y
      → HasPass passes y.low v w → ((j : ℕ) (z : Stop) → j < k → slice_get line j ≡ Some z → z.low ≢ v)
      → (r : Rank) × (x.rise ≡ Some r) × IsNotAbove below r w
