-- The answers that tell the values of parameters and notations.
use Rattle.std.specs.Prelude.{ℕ, ℤ, List, Option, Result, Ok, Err}
use Rattle.hd_feature.specs.declared.notation.Notation.{Notation}
use Rattle.hd_feature.specs.declared.notation.NotationError.{NotationError}
use Rattle.hd_feature.specs.declared.notation.Parameter.{Parameter}
use Rattle.hd_feature.specs.Notation.{notation_of}
use Rattle.hd_feature.specs.Parameters.{parameter_of}
use Rattle.hd_num.specs.declared.frac.Frac.{Frac}
use Rattle.hd_regions.specs.Values.{IsNotationValue, IsParameterValue}
use Rattle.hd_report.specs.Notations.{notation_text}
use Rattle.hd_report.specs.Values.{feature_line, param_line}
use Rattle.hd_session.specs.Reply.{Reply, Reports, Refuses, accepted_with}
use Rattle.hd_session.specs.State.{State}

-- the value of a parameter is told
pub record TellsParameter (s : State) (name : List ℕ) (height : Option ℤ) (p : Parameter) (reply : Reply) (after : State) : Type 0 where
  pub value : Option Frac
  pub is : IsParameterValue s.map p value
  pub answer : Reports s after (accepted_with (param_line name height value)) reply

-- the answer by what a name means
abbrev pub IsNamedAnswer : State → ℕ → List ℕ → Option ℤ → Result Parameter NotationError → Reply → State → Type 0
IsNamedAnswer s number name height (Ok p) reply after = TellsParameter s name height p reply after
IsNamedAnswer s number name height (Err error) reply after = Refuses s number (notation_text error) reply after

-- a parameter's value is told, or its name or its height is refused
abbrev pub IsParamAnswer : State → ℕ → List ℕ → Option ℤ → Reply → State → Type 0
IsParamAnswer s number name height reply after = IsNamedAnswer s number name height (parameter_of name height) reply after

-- the value of a notation is told
pub record TellsFeature (s : State) (word : List ℕ) (n : Notation) (reply : Reply) (after : State) : Type 0 where
  pub value : Option Frac
  pub is : IsNotationValue s.map n value
  pub answer : Reports s after (accepted_with (feature_line word value)) reply

-- the answer by the notation that a word is
abbrev pub IsNotationAnswer : State → ℕ → List ℕ → Result Notation NotationError → Reply → State → Type 0
IsNotationAnswer s number word (Ok n) reply after = TellsFeature s word n reply after
IsNotationAnswer s number word (Err error) reply after = Refuses s number (notation_text error) reply after

-- a notation's value is told, or the word is refused
abbrev pub IsFeatureAnswer : State → ℕ → List ℕ → Reply → State → Type 0
IsFeatureAnswer s number word reply after = IsNotationAnswer s number word (notation_of word) reply after
