-- Descents that are found profile by profile.
use Rattle.std.proofs.Common.{◌+◌, ℕ}
use Rattle.hd_map.specs.declared.types.SideName.{SideName}
use Rattle.hd_map.specs.Encoding.{Encoding}
use Rattle.hd_map.specs.Map.{Map}
use Rattle.hd_steep.specs.declared.descending.Descending.{Descending}
use Rattle.hd_steep.specs.Descending.{HasDescended, IsBefore}
use Rattle.hd_steep.proofs.KeyRows.{rows-next}

-- after a profile comes the next
pub before-next : {L : Type 0} (code : Encoding L) (side : SideName) (m : Map) (y : ℕ) (d : Descending L) → HasDescended code side m y d → IsBefore code side m (y + 1) d
before-next code side m y d has = record { room = has.room; rows = rows-next code side m y d.rows has.rows }
