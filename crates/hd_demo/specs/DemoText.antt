-- What a demo prints.
use Rattle.std.specs.Prelude.{◌≡◌, ◌-◌, ◌++◌, ℕ, zero, suc, List, [], ◌∷◌, length, codes, decimal, slice_get, unwrap_or}
use Rattle.std.specs.List.{before_first}
use Rattle.hd_num.specs.Lines.{is_line_feed, words_of}
use Rattle.hd_session.specs.Answers.{IsAnswer}
use Rattle.hd_session.specs.Reply.{Reply}
use Rattle.hd_session.specs.State.{State, first_state}
use Rattle.hd_words.specs.declared.demo.Demo.{Demo}
use Rattle.hd_demo.specs.Generator.{drawn_edit, drawn_file}

-- a line
abbrev pub line : List ℕ → List ℕ
line text = text ++ 10 ∷ []

-- the last of some words, and nothing where there is none
abbrev pub last_of : List (List ℕ) → List ℕ
last_of words = unwrap_or (slice_get words (length words - 1)) []

-- what an answer tells: the last word of its first line
abbrev pub value_in : List ℕ → List ℕ
value_in answer = last_of (words_of (before_first is_line_feed answer))

-- a line of a summary: what is told, and the line of a script that asks for it
pub record Row : Type 0 where
  pub label : List ℕ
  pub question : List ℕ

abbrev pub row : List ℕ → List ℕ → Row
row label question = record { label = label; question = question }

-- the lines of a summary
abbrev pub summary_rows : List Row
summary_rows = row (codes "dales") (codes "dales")
    ∷ row (codes "hills") (codes "hills")
    ∷ row (codes "kept dales") (codes "prune D 5%")
    ∷ row (codes "kept hills") (codes "prune H 5%")
    ∷ row (codes "Spd") (codes "param Spd")
    ∷ row (codes "S10z") (codes "param S10z")
    ∷ []

-- `LABEL VALUE`
abbrev pub row_text : List ℕ → List ℕ → List ℕ
row_text label value = line (label ++ 32 ∷ [] ++ value)

-- a line of a summary on a state, and the state after its question, which is asked as line 1
abbrev pub IsRowText : State → Row → List ℕ → State → Type 0
IsRowText s r text after =
    (reply : Reply) × IsAnswer s 1 r.question reply after × (text ≡ row_text r.label (value_in reply.text))

-- some lines of a summary, each on the state after the questions before it
abbrev pub AreRowTexts : State → List Row → List ℕ → State → Type 0
AreRowTexts s [] text after = (text ≡ []) × (after ≡ s)
AreRowTexts s (first ∷ rows) text after = (told : List ℕ) × (middle : State) × (others : List ℕ)
    × IsRowText s first told middle × AreRowTexts middle rows others after × (text ≡ told ++ others)

-- the summary of a state, and the state after its questions
abbrev pub IsSummary : State → List ℕ → State → Type 0
IsSummary s text after = AreRowTexts s summary_rows text after

-- a line of a summary is added to a text
abbrev pub AddsRow : State → Row → List ℕ → List ℕ → State → Type 0
AddsRow s r old new after = (text : List ℕ) × IsRowText s r text after × (new ≡ old ++ text)

-- some lines of a summary are added to a text
abbrev pub AddsRows : State → List Row → List ℕ → List ℕ → State → Type 0
AddsRows s rows old new after = (text : List ℕ) × AreRowTexts s rows text after × (new ≡ old ++ text)

-- the state after the first n edits of a demo, each answered as line 1 of a script
abbrev pub AreEdits : Demo → State → ℕ → State → Type 0
AreEdits demo s zero after = after ≡ s
AreEdits demo s (suc n) after = (middle : State) × (reply : Reply) × AreEdits demo s n middle
    × IsAnswer middle 1 (drawn_edit demo.size demo.number n) reply after

-- a number after a space
abbrev pub spaced : ℕ → List ℕ
spaced n = 32 ∷ [] ++ decimal n

-- `demo W H NUMBER EDITS`
abbrev pub title : Demo → List ℕ
title demo = line (codes "demo" ++ spaced demo.size.points ++ spaced demo.size.profiles ++ spaced demo.number
    ++ spaced demo.edits)

-- `edits EDITS`
abbrev pub edits_line : Demo → List ℕ
edits_line demo = line (codes "edits " ++ decimal demo.edits)

-- the state of a demo's surface
abbrev pub demo_state : Demo → State
demo_state demo = first_state (drawn_file demo.size demo.number)

-- what a session is asked after the title, and what is printed of its answers: the summary before the edits, and the
-- summary after them
pub record IsTold (demo : Demo) (s : State) (text : List ℕ) : Type 0 where
  pub before : List ℕ
  pub shown : State
  pub summary_before : IsSummary s before shown
  pub edited : State
  pub edits : AreEdits demo shown demo.edits edited
  pub later : List ℕ
  pub last : State
  pub summary_after : IsSummary edited later last
  pub text_is : text ≡ before ++ edits_line demo ++ later

-- both summaries are added to a text
abbrev pub AddsTold : Demo → State → List ℕ → List ℕ → Type 0
AddsTold demo s old new = (text : List ℕ) × IsTold demo s text × (new ≡ old ++ text)

-- what a demo prints
abbrev pub IsDemoText : Demo → List ℕ → Type 0
IsDemoText demo text = (told : List ℕ) × IsTold demo (demo_state demo) told × (text ≡ title demo ++ told)

-- this is what a demo prints, and there is no other text
pub record IsTheDemoText (demo : Demo) (text : List ℕ) : Type 0 where
  pub is : IsDemoText demo text
  pub only : (other : List ℕ) → IsDemoText demo other → other ≡ text
