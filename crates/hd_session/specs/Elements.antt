-- The answers on elements.
use Rattle.std.specs.Prelude.{ℕ, map, Result, Ok, Err}
use Rattle.hd_morph.specs.declared.errors.ElementError.{ElementError}
use Rattle.hd_morph.specs.Element.{ElementTable, MakesElement}
use Rattle.hd_edit.specs.Elements.{elements_with, line_of}
use Rattle.hd_report.specs.Elements.{element_text, elements_text}
use Rattle.hd_session.specs.Reply.{Reply, Becomes, Refuses, Reports, accepted_with}
use Rattle.hd_session.specs.State.{State}

-- the state with an element: in place of that of its name, or last
abbrev pub defined_state : State → ElementTable → State
defined_state s element = record s { elements = elements_with s.elements element }

-- the answer by what a table makes
abbrev pub IsMadeAnswer : State → ℕ → Result ElementTable ElementError → Reply → State → Type 0
IsMadeAnswer s number (Ok element) reply after = Becomes number (defined_state s element) after reply
IsMadeAnswer s number (Err error) reply after = Refuses s number (element_text error) reply after

-- the table makes an element, or is refused
pub record IsElementAnswer (s : State) (number : ℕ) (table : ElementTable) (reply : Reply) (after : State) : Type 0 where
  pub made : Result ElementTable ElementError
  pub makes : MakesElement table made
  pub answer : IsMadeAnswer s number made reply after

-- the elements are listed
abbrev pub IsElementsAnswer : State → Reply → State → Type 0
IsElementsAnswer s reply after = Reports s after (accepted_with (elements_text (map line_of s.elements))) reply
