-- The state of a grid that a script works on.
use Rattle.hd_map.specs.Map.{Map}
use Rattle.hd_engine.specs.declared.workpiece.Workpiece.{Workpiece}
use Rattle.hd_session.specs.State.{State}
use Rattle.hd_engine.specs.Texts.{texts_view}

-- where a grid is seen as a map
abbrev pub state_of : {G : Type 0} → (G → Map) → Workpiece G → State
state_of map w = record { read = texts_view w.texts; map = map w.board.grid; earlier = w.board.earlier; elements = w.board.elements }
