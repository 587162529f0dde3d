-- Crossings: passes that are enough to tell at which heights basins are joined. They need not have one for
-- each two basins that meet, where others lead from one to the other no higher.
use Rattle.std.specs.Prelude.{◌≡◌, ℕ, true, List, Option, Contains}
use Rattle.hd_map.specs.declared.types.Pass.{Pass}
use Rattle.hd_map.specs.declared.types.Rank.{Rank}
use Rattle.hd_map.specs.declared.types.SideName.{SideName}
use Rattle.hd_map.specs.Map.{Map}
use Rattle.hd_map.specs.Passes.{IsMeeting, IsLabelled}
use Rattle.hd_map.specs.Rank.{below_by}
use Rattle.hd_map.specs.Walks.{AreJoinedWithin}

-- of basins, where In x a says that the point x lies in the basin of a: each pass is at a meeting of its two
-- basins, the lower end first, and where two basins meet, passes that are not above the meeting join them
pub record AreCrossings (m : Map) (side : SideName) (In : Rank → Rank → Type 0) (passes : List Pass) : Type 0 where
  pub ends : (p : Pass) → Contains passes p → below_by side p.a p.b ≡ true
  pub meets : (p : Pass) → Contains passes p → IsMeeting m side In p.a p.b p.at
  pub enough : (a b w : Rank) → IsMeeting m side In a b w → AreJoinedWithin (below_by side) passes w a b

-- the crossings between the basins of the labels
abbrev pub AreCrossingsUnder : Map → SideName → List (Option ℕ) → List Pass → Type 0
AreCrossingsUnder m side labels passes = AreCrossings m side (IsLabelled m labels) passes
