-- The saddle that a certificate names.
use Rattle.std.specs.Prelude.{Option, Some, None, ℤ}
use Rattle.hd_map.specs.declared.types.Pos.{Pos}
use Rattle.hd_map.specs.declared.types.Rank.{Rank}
use Rattle.hd_map.specs.Map.{Map, place_of}
use Rattle.hd_check.specs.declared.types.Certificate.{Certificate}

-- its position
abbrev pub position_only : Option (Pos × ℤ) → Option Pos
position_only (Some s) = Some s.0
position_only None = None

abbrev pub level_of : Certificate → Option Pos
level_of c = position_only c.saddle

-- its rank, with the height that is written
abbrev pub written_rank : Map → Option (Pos × ℤ) → Option Rank
written_rank m (Some s) = Some (record { height = s.1; index = place_of m.size s.0 })
written_rank m None = None

abbrev pub saddle_of : Map → Certificate → Option Rank
saddle_of m c = written_rank m c.saddle
