-- Pits that are reached below a saddle, by their numbers.
use Rattle.std.specs.Prelude.{◌≡◌, ◌<◌, ◌↔◌, ℕ, Bool, true, false, List, length, Option, slice_index_or}
use Rattle.hd_map.specs.declared.types.Rank.{Rank}
use Rattle.hd_map.specs.declared.types.SideName.{SideName}
use Rattle.hd_map.specs.Map.{Map}
use Rattle.hd_map.specs.Shown.{IsReachedBelow}
use Rattle.hd_steep.specs.Crossings.{pit_at}

-- by number of a pit, whether it is reached from a below the saddle
pub record AreReachedPits (m : Map) (side : SideName) (saddle : Option Rank) (a : Rank) (pits : List Rank) (reached : List Bool) : Type 0 where
  pub whole : length reached ≡ length pits
  pub each : (k : ℕ) → k < length pits → slice_index_or reached k false ≡ true ↔ IsReachedBelow m side saddle a (pit_at pits k)
