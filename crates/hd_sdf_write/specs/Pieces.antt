-- The canonical text of a file, piece by piece.
use Rattle.std.specs.Prelude.{◌≡◌, ◌<◌, ◌≤◌, ◌++◌, Bool, true, false, ℕ, List, [], length}

-- the present piece, and what is left of the text behind it
pub record PiecesState : Type 0 where
  pub piece : List ℕ
  pub left : List ℕ

-- the most bytes of a piece
abbrev pub most_bytes : ℕ
most_bytes = 262144

-- the next piece of what was left of a text; or none, as nothing was left
pub record IsNext (old : PiecesState) (more : Bool) (new : PiecesState) : Type 0 where
  pub joined : old.left ≡ new.piece ++ new.left
  pub short : length new.piece ≤ most_bytes
  pub some : more ≡ true → 0 < length new.piece
  pub none : more ≡ false → old.left ≡ []
