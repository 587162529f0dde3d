-- Notes in the making.
use Rattle.std.specs.Prelude.{ℕ, List}
use Rattle.hd_edit.specs.declared.change.Change.{Change}

-- the changes that are noted, and for how many there is room
pub record NewNotesState : Type 0 where
  pub changes : List Change
  pub room : ℕ
