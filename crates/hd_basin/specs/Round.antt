-- The ranks of the positions of a part of a grid and of those beside it, and the lowest round each point.
use Rattle.std.specs.Prelude.{◌≡◌, ◌<◌, ◌+◌, ◌*◌, ◌||◌, ℕ, Bool, false, List, length}
use Rattle.std.specs.Ordering.{int_eq}
use Rattle.hd_map.specs.declared.types.Adjacency.{Adjacency}
use Rattle.hd_map.specs.declared.types.Adjacency.TheVariants.{Four, Six, Eight}
use Rattle.hd_map.specs.declared.types.Rank.{Rank}
use Rattle.hd_map.specs.declared.types.SideName.{SideName}
use Rattle.hd_map.specs.Map.{Map}
use Rattle.hd_steep.specs.Lowest.{missing, lower_of, IsLow, IsAtPlace}
use Rattle.hd_steep.specs.Rows.{rank_in}
use Rattle.hd_basin.specs.declared.frame.Frame.{Frame}

-- row by row the ranks of the positions of a part and of those beside it
pub record AreRanks (m : Map) (side : SideName) (f : Frame) (n : ℕ) (ranks : List Rank) : Type 0 where
  pub whole : length ranks ≡ n
  pub each : (i j : ℕ) → j < f.columns + 2 → i * (f.columns + 2) + j < n
      → IsLow m side (IsAtPlace (f.top + i) (f.left + j)) (rank_in ranks (i * (f.columns + 2) + j))

-- whether a rank is that of no point
abbrev pub is_missing : SideName → Rank → Bool
is_missing side r = int_eq r.height (missing side).height

-- whether one of three ranks side by side is
abbrev pub lacks_one : SideName → List Rank → ℕ → Bool
lacks_one side ranks k = is_missing side (rank_in ranks k) || is_missing side (rank_in ranks (k + 1)) || is_missing side (rank_in ranks (k + 2))

-- each of them is that of a point
abbrev pub AreAllPoints : SideName → List Rank → Type 0
AreAllPoints side ranks = (k : ℕ) → k < length ranks → is_missing side (rank_in ranks k) ≡ false

-- the lowest of three ranks
abbrev pub low_level : SideName → Rank → Rank → Rank → Rank
low_level side a b c = lower_of side (lower_of side a b) c

-- of three ranks in the row above a point the lowest of those beside it
abbrev pub low_above : SideName → Adjacency → Rank → Rank → Rank → Rank
low_above side Four a b c = b
low_above side Six a b c = lower_of side a b
low_above side Eight a b c = low_level side a b c

-- and of those in the row below it
abbrev pub low_below : SideName → Adjacency → Rank → Rank → Rank → Rank
low_below side Four a b c = b
low_below side Six a b c = lower_of side b c
low_below side Eight a b c = low_level side a b c

-- the lowest of a point and its neighbours, from rows of this width, where the first round it has the number k
abbrev pub low_round : SideName → Adjacency → List Rank → ℕ → ℕ → Rank
low_round side a ranks w k =
    lower_of side
    (lower_of side (low_above side a (rank_in ranks k) (rank_in ranks (k + 1)) (rank_in ranks (k + 2))) (low_level side (rank_in ranks (k + w)) (rank_in ranks (k + w + 1)) (rank_in ranks (k + w + 2))))
    (low_below side a (rank_in ranks (k + w + w)) (rank_in ranks (k + w + w + 1)) (rank_in ranks (k + w + w + 2)))
