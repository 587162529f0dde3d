-- The answers to edits and to undo.
use Rattle.std.specs.Prelude.{◌≤◌, ◌<◌, ◌⊎◌, ℕ, length, Result, Ok, Err}
use Rattle.hd_map.specs.Map.{Map}
use Rattle.hd_edit.specs.declared.edit.Edit.{Edit}
use Rattle.hd_edit.specs.declared.edit.EditError.{EditError}
use Rattle.hd_edit.specs.Board.{IsEdited, kept_after, map_before, earlier_before}
use Rattle.hd_report.specs.Edits.{edit_text, kept_text}
use Rattle.hd_session.specs.Reply.{Reply, Becomes, Refuses}
use Rattle.hd_session.specs.State.{State}

-- the state after an accepted edit
abbrev pub edited_state : State → Map → State
edited_state s m = record s { map = m; earlier = kept_after s.earlier s.map }

-- the answer to an edit, by its outcome
abbrev pub IsOutcomeAnswer : State → ℕ → Result Map EditError → Reply → State → Type 0
IsOutcomeAnswer s number (Ok m) reply after = Becomes number (edited_state s m) after reply
IsOutcomeAnswer s number (Err error) reply after = Refuses s number (edit_text error) reply after

-- an edit makes the map that is defined, or is refused
pub record IsEditAnswer (s : State) (number : ℕ) (edit : Edit) (reply : Reply) (after : State) : Type 0 where
  pub outcome : Result Map EditError
  pub edited : IsEdited s.elements s.map edit outcome
  pub answer : IsOutcomeAnswer s number outcome reply after

-- the state before the last n edits
abbrev pub undone_state : State → ℕ → State
undone_state s n = record s { map = map_before n s.earlier s.map; earlier = earlier_before n s.earlier }

-- an undo goes back over n kept edits, or is refused where fewer are kept
abbrev pub IsUndoAnswer : State → ℕ → ℕ → Reply → State → Type 0
IsUndoAnswer s number n reply after =
    ((n ≤ length s.earlier) × Becomes number (undone_state s n) after reply)
    ⊎ ((length s.earlier < n) × Refuses s number (kept_text (length s.earlier)) reply after)
