-- The first line of a text.
use Rattle.std.specs.Prelude.{◌≡◌, ◌++◌, ℕ, false, List, ◌∷◌}
use Rattle.std.specs.List.{list_any}
use Rattle.hd_num.specs.Lines.{is_line_feed}

-- the line ends before an LF, and the rest follows it
pub record IsFirstLine (text line rest : List ℕ) : Type 0 where
  pub text_is : text ≡ line ++ 10 ∷ rest
  pub one : list_any is_line_feed line ≡ false
