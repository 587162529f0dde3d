-- What a line of a script comes to, and the lines of a whole script.
use Rattle.std.specs.Prelude.{◌≡◌, ◌+◌, ◌++◌, ◌&&◌, ℕ, List, [], ◌∷◌, Option, Some, None, Result, Ok, Err}
use Rattle.hd_map.specs.declared.types.SideName.TheVariants as side
use Rattle.hd_script.specs.declared.command.Command.{Command}
use Rattle.hd_script.specs.declared.command.Command.TheVariants as command
use Rattle.hd_script.specs.declared.command.LineError.{LineError}
use Rattle.hd_script.specs.Line.{script_line}
use Rattle.hd_session.specs.Audits.{IsAuditAnswer}
use Rattle.hd_session.specs.Borders.{IsBordersAnswer}
use Rattle.hd_session.specs.Distributions.{IsHistAnswer, IsPercAnswer}
use Rattle.hd_session.specs.Edits.{IsEditAnswer, IsUndoAnswer}
use Rattle.hd_session.specs.Elements.{IsElementAnswer, IsElementsAnswer}
use Rattle.hd_report.specs.Forms.{form_text}
use Rattle.hd_session.specs.Heights.{IsHeightAnswer}
use Rattle.hd_session.specs.Info.{IsInfoAnswer}
use Rattle.hd_session.specs.Neighbours.{IsNeighboursAnswer}
use Rattle.hd_session.specs.Prunings.{IsPruneAnswer}
use Rattle.hd_session.specs.Regions.{IsRegionsAnswer, IsLabelAnswer}
use Rattle.hd_session.specs.Reply.{Reply, Reports, Refuses, accepted_with}
use Rattle.hd_session.specs.Saddles.{IsSaddleAnswer}
use Rattle.hd_session.specs.State.{State}
use Rattle.hd_session.specs.Trees.{IsTreeAnswer}
use Rattle.hd_session.specs.Values.{IsFeatureAnswer, IsParamAnswer}
use Rattle.hd_session.specs.Volumes.{IsVolumesAnswer}

-- what a command comes to on a state
abbrev pub IsCommandAnswer : State → ℕ → Command → Reply → State → Type 0
IsCommandAnswer s number (command.Do edit) reply after = IsEditAnswer s number edit reply after
IsCommandAnswer s number (command.Undo n) reply after = IsUndoAnswer s number n reply after
IsCommandAnswer s number (command.Element name width height table) reply after =
    IsElementAnswer s number (record { name = name; width = width; height = height; table = table }) reply after
IsCommandAnswer s number command.Elements reply after = IsElementsAnswer s reply after
IsCommandAnswer s number (command.Neighbours adjacency) reply after = IsNeighboursAnswer s number adjacency reply after
IsCommandAnswer s number command.Info reply after = IsInfoAnswer s reply after
IsCommandAnswer s number command.Dales reply after = IsRegionsAnswer s side.Dales reply after
IsCommandAnswer s number command.Hills reply after = IsRegionsAnswer s side.Hills reply after
IsCommandAnswer s number (command.Label name at) reply after = IsLabelAnswer s number name at reply after
IsCommandAnswer s number (command.Saddle name a b) reply after = IsSaddleAnswer s number name a b reply after
IsCommandAnswer s number (command.Tree name) reply after = IsTreeAnswer s name reply after
IsCommandAnswer s number (command.Prune name percent) reply after = IsPruneAnswer s name percent.thousandths reply after
IsCommandAnswer s number (command.Lines name percent) reply after = IsBordersAnswer s name percent.thousandths reply after
IsCommandAnswer s number (command.Audit name percent) reply after = IsAuditAnswer s name percent reply after
IsCommandAnswer s number (command.Fill name percent) reply after = IsVolumesAnswer s name percent.thousandths reply after
IsCommandAnswer s number (command.Param name height) reply after = IsParamAnswer s number name height reply after
IsCommandAnswer s number (command.Feature word) reply after = IsFeatureAnswer s number word reply after
IsCommandAnswer s number (command.HeightValue name c) reply after = IsHeightAnswer s number name c reply after
IsCommandAnswer s number (command.Hist bins word) reply after = IsHistAnswer s number bins word reply after
IsCommandAnswer s number (command.Perc above word) reply after = IsPercAnswer s number above word reply after

-- what a line that was read comes to: a line that has not its form is refused, and a skipped one prints nothing
abbrev pub IsReadAnswer : State → ℕ → Result (Option Command) LineError → Reply → State → Type 0
IsReadAnswer s number (Err error) reply after = Refuses s number (form_text error) reply after
IsReadAnswer s number (Ok None) reply after = Reports s after (accepted_with []) reply
IsReadAnswer s number (Ok (Some command)) reply after = IsCommandAnswer s number command reply after

-- what the line of this number comes to on a state, and the state after it
abbrev pub IsAnswer : State → ℕ → List ℕ → Reply → State → Type 0
IsAnswer s number line reply after = IsReadAnswer s number (script_line line) reply after

-- the answers to lines from this number on, each on the state after the lines before it: whether all
-- are accepted, all texts in order, and the last state
abbrev pub AreAnswers : State → ℕ → List (List ℕ) → Reply → State → Type 0
AreAnswers s number [] reply after = Reports s after (accepted_with []) reply
AreAnswers s number (line ∷ lines) reply after = (first : Reply) × (middle : State) × (others : Reply)
    × IsAnswer s number line first middle × AreAnswers middle (number + 1) lines others after
    × (reply ≡ record { accepted = first.accepted && others.accepted; text = first.text ++ others.text })
