-- Points that lie within a level.
use Rattle.std.specs.Prelude.{◌≡◌, Bool, true, false, not, Option, Some, None}
use Rattle.hd_map.specs.declared.types.Pos.{Pos}
use Rattle.hd_map.specs.declared.types.Rank.{Rank}
use Rattle.hd_map.specs.declared.types.SideName.{SideName}
use Rattle.hd_map.specs.Map.{Map, Present}
use Rattle.hd_map.specs.Rank.{rank, below_by}

-- whether a rank is below the level, if strict, and else whether it is not above it; all are where there is no level
abbrev pub within : SideName → Option Rank → Bool → Rank → Bool
within side None strict r = true
within side (Some s) true r = below_by side r s
within side (Some s) false r = not (below_by side s r)

-- a present point that lies within the level
pub record LiesWithin (m : Map) (side : SideName) (level : Option Rank) (strict : Bool) (p : Pos) : Type 0 where
  pub present : Present m p
  pub low : within side level strict (rank m p) ≡ true
