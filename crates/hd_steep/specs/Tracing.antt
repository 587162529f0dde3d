-- The pits of a map and the crossings between their regions, as they are found along its first links.
use Rattle.std.specs.Prelude.{◌≡◌, ℕ, List, Contains}
use Rattle.hd_map.specs.declared.types.Link.{Link}
use Rattle.hd_map.specs.declared.types.Pass.{Pass}
use Rattle.hd_map.specs.declared.types.Rank.{Rank}
use Rattle.hd_map.specs.declared.types.SideName.{SideName}
use Rattle.hd_map.specs.Map.{Map}
use Rattle.hd_steep.specs.declared.descent.Descent.{Descent}
use Rattle.hd_steep.specs.Crossed.{Extends, IsCrossed}
use Rattle.hd_steep.specs.Crossings.{passes_of}
use Rattle.hd_steep.specs.Descents.{LeadsDown}

-- the pits in position order, by index the number of the pit in whose region the point lies, where it was traced, and the crossings
pub record Traced : Type 0 where
  pub pits : List Rank
  pub numbers : List ℕ
  pub crossings : List Link

module _ (m : Map) (side : SideName) where
  -- the passes of what was traced
  abbrev pub traced_passes : Traced → List Pass
  traced_passes t = passes_of side t.pits t.crossings

  -- the ends of the descent lie in one region, or in two that a pass at its higher end joins
  abbrev pub IsTracedAcross : Traced → Descent → Type 0
  IsTracedAcross t d = (x y : Rank) → LeadsDown m side d x y → IsCrossed m side (traced_passes t) x y

  -- the crossings are extended, so that the descents lead across them
  pub record TracesAcross (descents : List Descent) (old new : Traced) : Type 0 where
    pub same : new.pits ≡ old.pits
    pub extends : Extends m side (traced_passes old) (traced_passes new)
    pub across : (d : Descent) → Contains descents d → IsTracedAcross new d
