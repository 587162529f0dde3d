-- The answer to a setting of the neighbours.
use Rattle.std.specs.Prelude.{ℕ, map}
use Rattle.hd_map.specs.declared.types.Adjacency.{Adjacency}
use Rattle.hd_map.specs.Map.{Map}
use Rattle.hd_map.specs.Sets.{under}
use Rattle.hd_session.specs.Reply.{Reply, Becomes}
use Rattle.hd_session.specs.State.{State}

-- the state under another setting. It is one for the present map and each earlier one, so that no undo changes it
abbrev pub state_under : Adjacency → State → State
state_under adjacency s = record s { map = under adjacency s.map; earlier = map {A = Map} {B = Map} (under adjacency) s.earlier }

-- the setting is put in place; it is no edit, and nothing is kept of the one before
abbrev pub IsNeighboursAnswer : State → ℕ → Adjacency → Reply → State → Type 0
IsNeighboursAnswer s number adjacency reply after = Becomes number (state_under adjacency s) after reply
