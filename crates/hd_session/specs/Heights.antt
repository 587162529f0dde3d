-- The answer that tells the value of a height parameter.
use Rattle.std.specs.Prelude.{ℕ, ℤ, List, Option, Result, Ok, Err}
use Rattle.hd_feature.specs.declared.notation.NotationError.{NotationError}
use Rattle.hd_num.specs.declared.frac.Frac.{Frac}
use Rattle.hd_stats.specs.declared.name.HeightName.{HeightName}
use Rattle.hd_stats.specs.Heights.{IsHeightValue}
use Rattle.hd_stats.specs.Names.{height_name_of}
use Rattle.hd_report.specs.Notations.{notation_text}
use Rattle.hd_report.specs.Values.{height_line}
use Rattle.hd_session.specs.Reply.{Reply, Reports, Refuses, accepted_with}
use Rattle.hd_session.specs.State.{State}

-- the value over the present map is told
pub record TellsHeight (s : State) (name : List ℕ) (c : Option ℤ) (p : HeightName) (reply : Reply) (after : State) : Type 0 where
  pub value : Option Frac
  pub is : IsHeightValue s.map p value
  pub answer : Reports s after (accepted_with (height_line name c value)) reply

-- the answer by what a name means
abbrev pub IsHeightOf : State → ℕ → List ℕ → Option ℤ → Result HeightName NotationError → Reply → State → Type 0
IsHeightOf s number name c (Ok p) reply after = TellsHeight s name c p reply after
IsHeightOf s number name c (Err error) reply after = Refuses s number (notation_text error) reply after

-- a height parameter's value is told, or its name or its height is refused
abbrev pub IsHeightAnswer : State → ℕ → List ℕ → Option ℤ → Reply → State → Type 0
IsHeightAnswer s number name c reply after = IsHeightOf s number name c (height_name_of name c) reply after
