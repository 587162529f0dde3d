-- The log of a board as the list of the earlier maps.
use Rattle.std.specs.Prelude.{◌≡◌, ◌≤◌, List, [], ◌∷◌, length, All}
use Rattle.circular_buffer.specs.Buffer.{Buffer}
use Rattle.hd_map.specs.declared.types.Size.{Size}
use Rattle.hd_map.specs.declared.types.DataType.{DataType}
use Rattle.hd_map.specs.Map.{Map}
use Rattle.hd_edit.specs.declared.entry.Entry.{Entry}
use Rattle.hd_edit.specs.Entry.{before_entry, IsEntryIn}
use Rattle.hd_edit.specs.Board.{log_places}

-- the first of the maps, or the present one
abbrev pub first_map : List Map → Map → Map
first_map [] m = m
first_map (e ∷ es) m = e

-- the maps before each entry, the newest last, told from the present map and the entries
abbrev pub earlier_maps : List Entry → Map → List Map
earlier_maps [] m = []
earlier_maps (e ∷ es) m = before_entry e (first_map (earlier_maps es m) m) ∷ earlier_maps es m

-- a log of at most 32 entries, each of an edit of a map of this size and type
pub record IsLogIn (size : Size) (type : DataType) (log : Buffer Entry) : Type 0 where
  pub places : log.capacity ≡ log_places
  pub few : length log.items ≤ log_places
  pub each : All (IsEntryIn size type) log.items

abbrev pub IsLog : Map → Buffer Entry → Type 0
IsLog m = IsLogIn m.size m.data_type
